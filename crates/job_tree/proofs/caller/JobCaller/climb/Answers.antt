use Rattle.std.specs.Prelude.{Bool, true, false, not, ◌≡◌}
use Rattle.std.proofs.Common.{refl, ap, ◌∙◌}
use Rattle.job_model.proofs.Spans.{prefix_then, setting_then}
use Rattle.job_tree.proofs.CallersKept.{caller_self, caller_then}
use Rattle.job_tree.proofs.Rooms.{looked_room}
use Rattle.job_tree.proofs.Walks.{legal_as, may_next, covered_kept}
use Rattle.job_tree.proofs.Causes.{failure_later}
use Rattle.job_tree.proofs.Climbs.{first_climb, climb_looked, climb_up, climb_stops, climb_part, climb_ends, child_holds, parent_attached, rank_less}
use Rattle.job_model.proofs.FailingUp.{goes_kept}
use Rattle.job_tree.proofs.caller.JobCaller.climb.Goals as goal

not_true : (b : Bool) → not b ≡ true → b ≡ false
not_true true e = cc
not_true false e = refl

not_false : (b : Bool) → not b ≡ false → b ≡ true
not_false true e = refl
not_false false e = cc

pub loop-parent-init : goal.loop-parent-init
loop-parent-init g c = record {
  same = caller_self _ _;
  climb = first_climb _ _ c.requires.failed c.requires.can.attached;
  covered = tt;
  room = c.requires.room;
}

pub failing_parent-requires : goal.failing_parent-requires
failing_parent-requires g c =
    let i = c.loop-parent.invariant in
    record { can = may_next _ _ _ _ _ _ i.same.who c.requires.can i.climb.noted.added.same i.climb.attached }

pub pass_except-requires : goal.pass_except-requires
pass_except-requires g c =
    let i = c.loop-parent.invariant in
    let t = c.in-Some.ensures in
    let l = g.met.F.JobFloor.legal c.failing_parent.new.self.floor.now in
    let looked = t.answer.looked.looked in
    record {
      can = may_next _ _ _ _ _ _ (t.same.who ∙ i.same.who) c.requires.can (setting_then _ _ _ i.climb.noted.added.same looked.same)
          (parent_attached _ _ _ _ l t.answer.is.parent);
      reason = child_holds (g.F.JobFloor.view c.failing_parent.new.self.floor.now).shape _ c.failing_parent.new.self.who _ _ t.answer.is
          (failure_later _ _ _ _ l looked.longer i.climb.failed);
      covered = covered_kept _ _ _ c.loop-parent.covered l looked.longer i.covered;
      room = λ e. looked_room _ _ _ _ _ _ looked (ap g.B.NoteBook.spare t.book) (i.room e);
    }

pub returns-clause-answer : goal.returns-clause-answer
returns-clause-answer g c =
    let i = c.loop-parent.invariant in
    let t = c.in_default.ensures in
    let l = g.met.F.JobFloor.legal c.failing_parent.new.self.floor.now in
    climb_ends l (climb_looked l i.climb t.answer.looked) t.answer.is

pub returns-clause-room : goal.returns-clause-room
returns-clause-room g c = λ e.
    let t = c.in_default.ensures in
    looked_room _ _ _ _ _ _ t.answer.looked.looked (ap g.B.NoteBook.spare t.book) (c.loop-parent.invariant.room e)

pub returns-then-not-passed-clause-answer : goal.returns-then-not-passed-clause-answer
returns-then-not-passed-clause-answer g c =
    let i = c.loop-parent.invariant in
    let t = c.in-Some.ensures in
    let climb = climb_looked (g.met.F.JobFloor.legal c.failing_parent.new.self.floor.now) i.climb t.answer.looked in
    climb_stops (not_true c.in-Ok.passed.newly c.if-not-passed.true) (g.met.F.JobFloor.legal c.pass_except.new.self.floor.now) climb
    t.answer.is
    c.in-Ok.ensures.answer

pub returns-in-Err-clause-answer : goal.returns-in-Err-clause-answer
returns-in-Err-clause-answer g c =
    let i = c.loop-parent.invariant in
    let t = c.in-Some.ensures in
    let m = c.in-Err.ensures.answer in
    let climb = climb_looked (g.met.F.JobFloor.legal c.failing_parent.new.self.floor.now) i.climb t.answer.looked in
    (m.0, climb_part (g.met.F.JobFloor.legal c.pass_except.new.self.floor.now) climb t.answer.is m.1)

pub loop-parent-preserved : goal.loop-parent-preserved
loop-parent-preserved g c =
    let i = c.loop-parent.invariant in
    let t = c.in-Some.ensures in
    let m = c.in-Ok.ensures in
    let climb = climb_looked (g.met.F.JobFloor.legal c.failing_parent.new.self.floor.now) i.climb t.answer.looked in
    let legal = g.met.F.JobFloor.legal c.pass_except.new.self.floor.now in
    record {
      same = caller_then _ _ _ _ i.same (caller_then _ _ _ _ t.same m.same);
      climb = climb_up (not_false c.in-Ok.passed.newly c.if-not-passed.false) legal climb t.answer.is m.answer;
      covered = m.answer.all;
      room = m.room;
    }

pub loop-parent-smaller : goal.loop-parent-smaller
loop-parent-smaller g c =
    let i = c.loop-parent.invariant in
    let t = c.in-Some.ensures in
    let m = c.in-Ok.ensures.answer.noted.added in
    let looked = t.answer.looked.looked in
    let same = setting_then _ _ _ i.climb.noted.added.same (setting_then _ _ _ looked.same m.same) in
    let l = legal_as _ _ same (g.met.F.JobFloor.legal c.pass_except.new.self.floor.now) in
    rank_less _ _ _ _ _ (g.met.F.JobFloor.shaped c.args.self.now.floor.now) l (prefix_then _ _ _ looked.longer m.longer) i.climb.attached
    (goes_kept _ _ _ _ _ l m.longer t.answer.is).parent
