use Rattle.std.proofs.Common.{ap, sym, ◌∙◌, ◌+◌, drop, get_or, arith}
use Rattle.std.proofs.lemmas.List.{at_drop_more}
use Rattle.channel_model.specs.declared.acts.Act.TheVariants.{Hand}
use Rattle.channel_model.specs.declared.acts.ChannelNote.TheVariants as note
use Rattle.note_book.specs.declared.book.Item.TheVariants as item
use Rattle.note_book.specs.Items.{job_acts_in}
use Rattle.run_report.specs.JobFacts.{both_said, facts_at, job_facts_of}
use Rattle.run_report.proofs.Said.{said_no_more, said_one_more}
use Rattle.run_report.proofs.job_facts.add_book.Goals as goal
use Rattle.run_report.proofs.job_facts.add_book.Goals.{in-Some, in_default}

pub loop-item-preserved : goal.loop-item-preserved
loop-item-preserved c = λ r h.
    let items = c.args.notes.now in
    let k = c.loop-item.item-index in
    let i = get_or items k (item.Channel (note.Made (Hand 0 0 0))) in
    let before = facts_at c.loop-item.table r in
    let here = facts_at c.match-act_noted.table r in
    let all = both_said (facts_at c.args.table.now r) (job_facts_of r (job_acts_in items)) in
    let invariant =
    ap (both_said before) (sym (at_drop_more (λ l. job_facts_of r (job_acts_in l)) items k (item.Channel (note.Made (Hand 0 0 0)))
    (omega arith))) ∙ c.loop-item.invariant r h in
    elim c.match-act_noted.branch [
      | in-Some w ↦ said_one_more before here all r i (drop (k + 1) items) w.in-Some.act w.in-Some.ensures
          (ap (λ t. facts_at t r) w.table-is ∙ w.add_act.ensures r (omega (arith, h))) invariant
      | in_default w ↦ said_no_more before here all r i (drop (k + 1) items) w.in_default.ensures (ap (λ t. facts_at t r) w.table-is)
          invariant
    ]
