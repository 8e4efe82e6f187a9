use Rattle.std.proofs.Common.{◌<◌, sym, ap, ◌∙◌, subst}
use Rattle.worded.specs.Views.{has_tag}
use Rattle.worded.specs.Exchanges.{MayLift}
use Rattle.word_rules.specs.declared.size.ForestSize.{ForestSize}
use Rattle.word_rules.specs.Deeds.{shape_of, doer, word_count, IsDone, Fits}
use Rattle.joined_words.specs.Seen.{view_of}
use Rattle.job_words.specs.JobParts.{jobs_in}
use Rattle.job_words.specs.Forests.{seen_by}
use Rattle.job_words.proofs.StepsOfATable.{wide_at, first_at, size_at, TableSeen, PassLaws, stays_at}
use Rattle.job_words.proofs.steps.lift_word.Goals as goal

pub lift_in-requires-clause-table : goal.lift_in-requires-clause-table
lift_in-requires-clause-table c = wide_at c.args.forest.now (ap (λ x. x.shared.table_id) c.deref.ensures)
    (ap (λ x. x.shared.key) c.deref.ensures)

pub lift_in-requires-clause-seat : goal.lift_in-requires-clause-seat
lift_in-requires-clause-seat c = (
  c.requires.own.0.0.0 ∙ sym (ap (λ x. x.shared.table_id) c.deref.ensures),
  c.requires.own.0.0.1
      ∙ sym (ap (λ x. x.shared.key) c.deref.ensures),
)

pub lift_in-requires-clause-word : goal.lift_in-requires-clause-word
lift_in-requires-clause-word c =
    let f = c.args.forest.now in (
      first_at f (ap (λ x. x.shared.key) c.deref.ensures),
      subst (λ (k : ForestSize). c.args.word < word_count k) (sym (size_at f (ap (λ x. x.shared.key) c.deref.ensures))) c.requires.word,
    )

pub lift_in-requires-clause-may : goal.lift_in-requires-clause-may
lift_in-requires-clause-may c =
    let f = c.args.forest.now in
    subst (λ (k : ForestSize). MayLift (IsDone (shape_of k)) (Fits k) doer (view_of (seen_by c.args.pass.now)) c.args.word c.args.least)
    (sym (size_at f (ap (λ x. x.shared.key) c.deref.ensures))) c.requires.may

pub invariant_of-pass : goal.invariant_of-pass
invariant_of-pass c =
    let p = c.args.pass.now in
    let l = subst (λ (v : TableSeen). PassLaws (jobs_in v)) (sym c.lift_in.ensures.view)
    (record { shaped = p.shaped; done = p.done; legal = p.legal; claimed = p.claimed; ungiven = p.ungiven }) in
    record { shaped = l.shaped; done = l.done; legal = l.legal; claimed = l.claimed; ungiven = l.ungiven }

pub returns-clause-own : goal.returns-clause-own
returns-clause-own c =
    let v = c.lift_in.ensures.view in (
      stays_at c.args.forest.now c.args.pass.now.seat c.lift_in.new.seat c.requires.own.0 c.lift_in.ensures.same
          (ap (λ (x : TableSeen). x.key) v) (ap (λ (x : TableSeen). x.heard_tags) v ∙ c.requires.own.0.0.2),
      ap (λ (x : TableSeen). has_tag c.args.who (jobs_in x).tags) v ∙ c.requires.own.1,
    )

pub returns-clause-same : goal.returns-clause-same
returns-clause-same c = ap jobs_in c.lift_in.ensures.view
