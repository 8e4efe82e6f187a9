use Rattle.std.proofs.Common.{ap, sym, ◌∙◌, ◌+◌, drop, get_or, arith}
use Rattle.std.proofs.lemmas.List.{at_drop_more, at_drop_all}
use Rattle.channel_model.specs.declared.acts.Act.TheVariants.{Hand}
use Rattle.channel_model.specs.declared.acts.ChannelNote.TheVariants as note
use Rattle.note_book.specs.declared.book.Item.TheVariants as item
use Rattle.note_book.specs.Items.{channel_acts_in}
use Rattle.run_report.specs.Facts.{facts_of, joined}
use Rattle.run_report.specs.Tables.{value_at}
use Rattle.run_report.proofs.Told.{joined-nothing, told_more}
use Rattle.run_report.proofs.facts.add_book.Goals as goal

pub loop-item-preserved : goal.loop-item-preserved
loop-item-preserved c = record {
  plain = c.add_item.ensures.plain ∙ c.loop-item.invariant.plain;
  joined = λ d q.
      let items = c.args.notes.now in
      let k = c.loop-item.item-index in
      let i = get_or items k (item.Channel (note.Made (Hand 0 0 0))) in
      let before = value_at c.loop-item.table d q in
      told_more before (value_at c.add_item.new.table d q)
      (joined (value_at c.args.table.now d q) (facts_of d q (channel_acts_in items))) d q i (drop (k + 1) items)
      (c.in_ok-add_item.ensures.joined d q)
      (ap (joined before) (sym (at_drop_more (λ l. facts_of d q (channel_acts_in l)) items k
      (item.Channel (note.Made (Hand 0 0 0))) (omega arith)))
      ∙ c.loop-item.invariant.joined d q);
}

pub returns-clause-joined : goal.returns-clause-joined
returns-clause-joined c = λ d q.
    let now = value_at c.loop-item.table d q in
    sym (joined-nothing now)
    ∙ ap (joined now) (sym (at_drop_all (λ l. facts_of d q (channel_acts_in l)) c.args.notes.now c.loop-item.item-index (omega arith)))
    ∙ c.loop-item.invariant.joined d q
