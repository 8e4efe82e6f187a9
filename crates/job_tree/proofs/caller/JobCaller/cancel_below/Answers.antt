use Rattle.std.specs.Int.{from_bool}
use Rattle.std.proofs.Common.{ℕ, ◌+◌, ◌≡◌, ◌==◌, ◌≤◌, Bool, true, false, refl, sym, ap, ◌∙◌, subst, arith, inl, inr}
use mathlib.Core.Logic.{◌⊎◌}
use Rattle.std.proofs.lemmas.Bool.{eqb-true}
use Rattle.job_model.proofs.Spans.{setting_then}
use Rattle.job_model.specs.Histories.{replay}
use Rattle.job_model.specs.Cancels.{IsAllCancelled}
use Rattle.job_tree.proofs.CallersKept.{caller_self, caller_then}
use Rattle.job_tree.proofs.Rooms.{looked_room}
use Rattle.job_tree.proofs.Walks.{first_walk, none_so_far, walk_not_root, legal_as, to_next, may_next, after_to, after_over, after_up, way_looked, pass_below_done, so_far_small, part_below}
use Rattle.job_tree.proofs.caller.JobCaller.cancel_below.Goals as goal

-- the walk goes on: it is not past all below the first row
not_there : (done : Bool) (at row : ℕ) → ((done ≡ true × (at ≡ row → ⊥)) ⊎ (done ≡ false)) → done ≡ true → (at == row) ≡ false
not_there done at row (inl h) e = by_test (at == row) refl
  where
    by_test : (b : Bool) → (at == row) ≡ b → (at == row) ≡ false
    by_test true k = absurd (h.1 (eqb-true at row k))
    by_test false k = k
not_there done at row (inr h) e = absurd (let u : true ≡ false = sym e ∙ h in cc)

at_most_one : (b : Bool) → from_bool b ≤ 1
at_most_one true = omega arith
at_most_one false = omega arith

pub loop-done-init : goal.loop-done-init
loop-done-init g c = record {
  same = caller_self _ _;
  way = record {
    walk = first_walk _ _ _ c.requires.can.attached c.requires.cancelled;
    so_far = none_so_far _ _;
    room = c.requires.room;
    rows = c.from-most.ensures ∙ c.rows.ensures;
    few = omega (arith, c.from-most.ensures, c.rows.type_inv);
  };
}

pub walk_step-requires-clause-can : goal.walk_step-requires-clause-can
walk_step-requires-clause-can g c =
    let i = c.loop-done.invariant in
    may_next _ _ _ _ _ _ i.same.who c.requires.can i.way.so_far.noted.added.same i.way.walk.attached

pub walk_step-requires-clause-child : goal.walk_step-requires-clause-child
walk_step-requires-clause-child g c = λ e.
    let i = c.loop-done.invariant in
    let l = legal_as _ _ i.way.so_far.noted.added.same (g.met.F.JobFloor.legal c.loop-done.self.floor.now) in
    walk_not_root _ _ _ _ _ l i.way.walk (not_there _ _ _ c.if-not-at-row.either e)

pub cancel_job-requires-clause-can : goal.cancel_job-requires-clause-can
cancel_job-requires-clause-can g c =
    let i = c.loop-done.invariant in
    let t = c.in-To.ensures in
    let shaped = g.met.F.JobFloor.shaped c.args.self.now.floor.now in
    let legal = g.met.F.JobFloor.legal c.walk_step.new.self.floor.now in
    let next = to_next shaped legal i.way.so_far i.way.walk (not_there _ _ _ c.if-not-at-row.either) t.looked t.answer in
    let same = setting_then _ _ _ i.way.so_far.noted.added.same t.looked.looked.same in
    may_next _ _ _ _ _ _ (t.same.who ∙ i.same.who) c.requires.can same next.attached

pub cancel_job-requires-clause-reason : goal.cancel_job-requires-clause-reason
cancel_job-requires-clause-reason g c =
    let i = c.loop-done.invariant in
    let t = c.in-To.ensures in
    let shaped = g.met.F.JobFloor.shaped c.args.self.now.floor.now in
    let legal = g.met.F.JobFloor.legal c.walk_step.new.self.floor.now in
    (to_next shaped legal i.way.so_far i.way.walk (not_there _ _ _ c.if-not-at-row.either) t.looked t.answer).holds

pub cancel_job-requires-clause-room : goal.cancel_job-requires-clause-room
cancel_job-requires-clause-room g c = λ e.
    let t = c.walk_step.ensures in
    looked_room _ _ _ _ _ _ t.looked.looked (ap g.B.NoteBook.spare t.book) (c.loop-done.invariant.way.room e)

pub overflow_add-count : goal.overflow_add-count
overflow_add-count g c =
    let i = c.loop-done.invariant in
    let k = so_far_small i.way.so_far in
    let one = at_most_one c.in-Ok.is_newly in
    omega (arith, i.way.rows, i.way.few)

pub prove-unreachable-requires : goal.prove-unreachable-requires
prove-unreachable-requires g c =
    let i = c.loop-done.invariant in
    let k = so_far_small i.way.so_far in
    omega (arith, i.way.rows, c.if-prove.true)

pub loop-done-smaller-in-Ok : goal.loop-done-smaller-in-Ok
loop-done-smaller-in-Ok g c =
    let i = c.loop-done.invariant in
    let t = c.in-To.ensures in
    let newly = c.in-Ok.is_newly in
    let shaped = g.met.F.JobFloor.shaped c.args.self.now.floor.now in
    let looked = g.met.F.JobFloor.legal c.walk_step.new.self.floor.now in
    let legal = g.met.F.JobFloor.legal c.cancel_job.new.self.floor.now in
    let counted = ap (λ x. c.loop-done.count + x) c.from.ensures in
    let apart = not_there _ _ _ c.if-not-at-row.either in
    (after_to c.args.covered newly counted c.is_covered-done.ensures c.requires.covered shaped looked legal i.way.so_far i.way.walk apart
    t.looked
    t.answer c.in-Ok.ensures.answer).less

pub loop-done-preserved-in-Ok : goal.loop-done-preserved-in-Ok
loop-done-preserved-in-Ok g c =
    let i = c.loop-done.invariant in
    let t = c.in-To.ensures in
    let m = c.in-Ok.ensures in
    let newly = c.in-Ok.is_newly in
    let shaped = g.met.F.JobFloor.shaped c.args.self.now.floor.now in
    let looked = g.met.F.JobFloor.legal c.walk_step.new.self.floor.now in
    let legal = g.met.F.JobFloor.legal c.cancel_job.new.self.floor.now in
    let counted = ap (λ x. c.loop-done.count + x) c.from.ensures in
    let apart = not_there _ _ _ c.if-not-at-row.either in
    let r = after_to c.args.covered newly counted c.is_covered-done.ensures c.requires.covered shaped looked legal i.way.so_far i.way.walk
    apart
    t.looked t.answer m.answer in
    record {
      same = caller_then _ _ _ _ i.same (caller_then _ _ _ _ t.same m.same);
      way = record { walk = r.walk; so_far = r.so_far; room = m.room; rows = i.way.rows; few = i.way.few };
    }

pub loop-done-smaller-in-Over : goal.loop-done-smaller-in-Over
loop-done-smaller-in-Over g c =
    let i = c.loop-done.invariant in
    let t = c.in-Over.ensures in
    let shaped = g.met.F.JobFloor.shaped c.args.self.now.floor.now in
    (after_over shaped (g.met.F.JobFloor.legal c.walk_step.new.self.floor.now) i.way.so_far i.way.walk t.looked t.answer).less

pub loop-done-preserved-in-Over : goal.loop-done-preserved-in-Over
loop-done-preserved-in-Over g c =
    let i = c.loop-done.invariant in
    let t = c.in-Over.ensures in
    let shaped = g.met.F.JobFloor.shaped c.args.self.now.floor.now in
    let r = after_over shaped (g.met.F.JobFloor.legal c.walk_step.new.self.floor.now) i.way.so_far i.way.walk t.looked t.answer in
    record { same = caller_then _ _ _ _ i.same t.same; way = way_looked t.looked (ap g.B.NoteBook.spare t.book) i.way r }

pub loop-done-smaller : goal.loop-done-smaller
loop-done-smaller g c =
    let i = c.loop-done.invariant in
    let t = c.in-Up.ensures in
    let shaped = g.met.F.JobFloor.shaped c.args.self.now.floor.now in
    let legal = g.met.F.JobFloor.legal c.walk_step.new.self.floor.now in
    (after_up shaped legal i.way.so_far i.way.walk (not_there _ _ _ c.if-not-at-row.either) t.looked t.answer).less

pub loop-done-preserved : goal.loop-done-preserved
loop-done-preserved g c =
    let i = c.loop-done.invariant in
    let t = c.in-Up.ensures in
    let shaped = g.met.F.JobFloor.shaped c.args.self.now.floor.now in
    let legal = g.met.F.JobFloor.legal c.walk_step.new.self.floor.now in
    let r = after_up shaped legal i.way.so_far i.way.walk (not_there _ _ _ c.if-not-at-row.either) t.looked t.answer in
    record { same = caller_then _ _ _ _ i.same t.same; way = way_looked t.looked (ap g.B.NoteBook.spare t.book) i.way r }

pub returns-clause-answer : goal.returns-clause-answer
returns-clause-answer g c =
    let i = c.loop-done.invariant in
    let h = c.if-not-at-row.false in
    let k = so_far_small i.way.so_far in
    let all = subst (IsAllCancelled (replay (g.F.JobFloor.view c.loop-done.self.floor.now).seen)) h.1 (i.way.walk.all h.0) in
    (pass_below_done i.way.so_far all, omega (arith, i.way.rows, i.way.few))

pub returns-in-Err-clause-answer : goal.returns-in-Err-clause-answer
returns-in-Err-clause-answer g c =
    let i = c.loop-done.invariant in
    let looked = g.met.F.JobFloor.legal c.walk_step.new.self.floor.now in
    let legal = g.met.F.JobFloor.legal c.cancel_job.new.self.floor.now in
    (c.in-Err.ensures.answer.0, part_below looked legal i.way.so_far c.in-To.ensures.looked c.in-Err.ensures.answer.1)
