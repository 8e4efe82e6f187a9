use Rattle.std.proofs.Common.{ℕ, ◌||◌, ap, sym, ◌∙◌, ◌+◌, drop, get_or, arith}
use Rattle.std.proofs.lemmas.List.{at_drop_more}
use Rattle.channel_model.specs.declared.acts.Act.TheVariants.{Hand}
use Rattle.channel_model.specs.declared.acts.ChannelNote.TheVariants as note
use Rattle.note_book.specs.declared.book.Item.TheVariants as item
use Rattle.note_book.specs.Items.{channel_acts_in}
use Rattle.run_report.specs.Resolutions.{is_elsewhere, is_resolved_elsewhere}
use Rattle.run_report.specs.Tables.{value_at}
use Rattle.run_report.proofs.Resolving.{resolved_more}
use Rattle.run_report.proofs.resolutions.add_book.Goals as goal

pub loop-item-preserved : goal.loop-item-preserved
loop-item-preserved c = λ d q w.
    let items = c.args.notes.now in
    let k = c.loop-item.item-index in
    let i = get_or items k (item.Channel (note.Made (Hand 0 0 0))) in
    let waits = λ (e r : ℕ). (value_at c.args.facts.now e r).wait in
    let before = is_elsewhere d q (value_at c.loop-item.table w.channel w.place) in
    resolved_more waits d q w before (is_elsewhere d q (value_at c.add_resolution.new.table w.channel w.place))
    (is_elsewhere d q (value_at c.args.table.now w.channel w.place) || is_resolved_elsewhere waits d q w (channel_acts_in items))
    i (drop (k + 1) items) (c.in_ok-add_resolution.ensures d q w)
    (ap (λ x. before || x) (sym (at_drop_more (λ l. is_resolved_elsewhere waits d q w (channel_acts_in l)) items k
    (item.Channel (note.Made (Hand 0 0 0))) (omega arith)))
    ∙ c.loop-item.invariant d q w)
