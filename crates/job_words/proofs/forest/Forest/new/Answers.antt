use Rattle.std.proofs.Common.{◌+◌, [], ◌∷◌, sym, ap, subst, arith, ◌∙◌}
use Rattle.worded.specs.Views.{has_tag}
use Rattle.job_model.specs.Trees.{IsShape}
use Rattle.job_model.specs.Floors.{IsFreshFloor}
use Rattle.word_rules.specs.declared.size.ForestSize.{ForestSize}
use Rattle.word_rules.specs.Deeds.{shape_of, doer}
use Rattle.worded.specs.declared.view.View.{View}
use Rattle.word_rules.specs.declared.deed.Deed.{Deed}
use Rattle.joined_words.specs.Seen.{view_of}
use Rattle.job_words.specs.Passes.{Seen, floor_of}
use Rattle.job_words.specs.JobParts.{jobs_in}
use Rattle.job_words.specs.Meetings.{NothingSeenOf}
use Rattle.job_words.proofs.PassesMeet.{nothing_seen_of}
use Rattle.job_words.proofs.StepsOfATable.{done_at, pass_laws}
use Rattle.worded.proofs.StepsOfSeats.{laws_first}
use Rattle.word_rules.proofs.FirstRows.{nothing_yet}
use Rattle.job_words.proofs.NewForests.{fresh}
use Rattle.job_words.proofs.forest.Forest.new.Goals as goal

pub invariant_of-result-2 : goal.invariant_of-result-2
invariant_of-result-2 c =
    let size : ForestSize = record { coroutines = c.args.coroutines; rows = c.args.coroutines + c.args.scopes } in
    let v : Seen = jobs_in c.in_ok-table.seat.me.0 in
    let s : IsShape (shape_of size) = record { some = c.requires.some; fit = omega arith } in
    let h = laws_first done_at doer NothingSeenOf nothing_seen_of size (view_of v) c.in_ok-table.ensures.first (nothing_yet (shape_of size))
    in
    let l = pass_laws size v s h.key h.legal_seen h.ungiven in
    record { shaped = l.shaped; done = l.done; legal = l.legal; claimed = l.claimed; ungiven = l.ungiven }

pub returns-clause-own : goal.returns-clause-own
returns-clause-own c =
    let e = c.in_ok-table.ensures.first in
    let s = c.in_ok-table.ensures.seat in
    let i = c.in_ok-shared.ensures.ok in (
      ((s.0 ∙ sym (ap (λ x. x.shared.table_id) i), s.1 ∙ sym (ap (λ x. x.shared.key) i), s.2, s.3), ap (λ (x : View Deed ForestSize). x.key) e, ap (λ (x : View Deed ForestSize). x.heard_tags) e),
      ap (λ (x : View Deed ForestSize). has_tag 0 x.tags) e,
    )

pub returns-clause-fresh : goal.returns-clause-fresh
returns-clause-fresh c =
    let size : ForestSize = record { coroutines = c.args.coroutines; rows = c.args.coroutines + c.args.scopes } in
    subst (λ (x : View Deed ForestSize). IsFreshFloor (record { coroutines = size.coroutines; rows = size.rows })
    (floor_of x.key x.tags x.seen (jobs_in c.in_ok-table.seat.me.0).order))
    (sym c.in_ok-table.ensures.first) (fresh size (0 ∷ []) _)

pub returns-clause-gives : goal.returns-clause-gives
returns-clause-gives c =
    let e = c.in_ok-table.ensures.first in
    (ap (λ (x : View Deed ForestSize). x.chief) e, ap (λ (x : View Deed ForestSize). x.given) e)
