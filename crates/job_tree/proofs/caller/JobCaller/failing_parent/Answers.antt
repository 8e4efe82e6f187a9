use Rattle.std.proofs.Common.{refl}
use Rattle.job_model.proofs.Spans.{prefix_self, prefix_then}
use Rattle.job_model.specs.Failures.{StaysBelow}
use Rattle.job_tree.proofs.Looks.{in_rows, may_later, never_none, looked_then, looked_self}
use Rattle.job_tree.proofs.Climbs.{seen_scope, seen_supervisor, linked_parent, may_parent, root_stays}
use Rattle.job_tree.proofs.caller.JobCaller.failing_parent.Goals as goal

pub returns-then-row-eq0-clause-answer : goal.returns-then-row-eq0-clause-answer
returns-then-row-eq0-clause-answer g c = record {
  looked = record { who = refl; items = refl; looked = looked_self _ _ };
  is =
      root_stays _ _ c.if-row-eq0.true;
}

pub look-requires-clause-row : goal.look-requires-clause-row
look-requires-clause-row g c = in_rows _ _ _ (g.met.F.JobFloor.shaped c.args.self.now.floor.now)
    (g.met.F.JobFloor.legal c.args.self.now.floor.now) c.requires.can

pub returns-in_default-clause-answer : goal.returns-in_default-clause-answer
returns-in_default-clause-answer g c = never_none _ _ _ _ _ (g.met.F.JobFloor.legal c.look.new.self) c.requires.can
    c.in_default.ensures.answer

pub returns-then-job-clause-answer : goal.returns-then-job-clause-answer
returns-then-job-clause-answer g c = record {
  looked = record { who = refl; items = refl; looked = c.look.ensures.answer.0 };
  is = StaysBelow.scope c.args.row (seen_scope _ _ _ _ _ (g.F.JobFloor.view c.look.new.self) (g.F.JobFloor.view c.look.new.self)
      (g.met.F.JobFloor.legal c.look.new.self) c.in-Some.ensures.answer (prefix_self _) c.if-job.true);
}

pub link-parent-requires-clause-can : goal.link-parent-requires-clause-can
link-parent-requires-clause-can g c =
    let k = c.look.ensures.answer.0 in
    may_later _ _ _ _ k.same k.longer (g.met.F.JobFloor.legal c.look.new.self) c.requires.can

pub look-requires-2-clause-row : goal.look-requires-2-clause-row
look-requires-2-clause-row g c =
    let l = g.met.F.JobFloor.legal c.link-parent.new.self in
    let k = looked_then _ _ _ _ c.look.ensures.answer.0 c.link-parent.ensures.answer.0 in
    in_rows _ _ _ (g.met.F.JobFloor.shaped c.link-parent.new.self) l
    (may_parent _ _ _ _ _ c.requires.can k.same l (linked_parent _ _ _ _ (g.F.JobFloor.view c.link-parent.new.self)
    (g.F.JobFloor.view c.link-parent.new.self) l c.link-parent.ensures.answer (prefix_self _)))

pub returns-in_default-look-clause-answer : goal.returns-in_default-look-clause-answer
returns-in_default-look-clause-answer g c =
    let l = g.met.F.JobFloor.legal c.link-parent.new.self in
    let k = looked_then _ _ _ _ c.look.ensures.answer.0 c.link-parent.ensures.answer.0 in
    never_none _ _ _ _ _ (g.met.F.JobFloor.legal c.look-2.new.self)
    (may_parent _ _ _ _ _ c.requires.can k.same l (linked_parent _ _ _ _ (g.F.JobFloor.view c.link-parent.new.self)
    (g.F.JobFloor.view c.link-parent.new.self) l c.link-parent.ensures.answer (prefix_self _))) c.in_default-look.ensures.answer

pub returns-then-above-clause-answer : goal.returns-then-above-clause-answer
returns-then-above-clause-answer g c =
    let l = g.met.F.JobFloor.legal c.look-2.new.self in
    let k = c.look-2.ensures.answer.0 in
    record {
      looked = record {
        who = refl;
        items = refl;
        looked = looked_then _ _ _ _
            (looked_then _ _ _ _ c.look.ensures.answer.0 c.link-parent.ensures.answer.0) k;
      };
      is = StaysBelow.supervised c.args.row c.link-parent.result.parent
          (linked_parent _ _ _ _ (g.F.JobFloor.view c.link-parent.new.self) (g.F.JobFloor.view c.look-2.new.self) l
          c.link-parent.ensures.answer k.longer) (seen_supervisor _ _ _ _ _ _ l c.in-Some-look.ensures.answer c.if-above.true);
    }

pub returns-clause-answer : goal.returns-clause-answer
returns-clause-answer g c =
    let l = g.met.F.JobFloor.legal c.look-2.new.self in
    let k = c.look-2.ensures.answer.0 in
    record {
      looked = record {
        who = refl;
        items = refl;
        looked = looked_then _ _ _ _
            (looked_then _ _ _ _ c.look.ensures.answer.0 c.link-parent.ensures.answer.0) k;
      };
      is = record {
        parent = linked_parent _ _ _ _ (g.F.JobFloor.view c.link-parent.new.self) (g.F.JobFloor.view c.look-2.new.self) l
            c.link-parent.ensures.answer k.longer;
        child = seen_scope _ _ _ _ _ (g.F.JobFloor.view c.look.new.self) (g.F.JobFloor.view c.look-2.new.self) l c.in-Some.ensures.answer
            (prefix_then _ _ _ c.link-parent.ensures.answer.0.longer k.longer) c.if-job.false;
        above = seen_supervisor _ _ _ _ _ _ l c.in-Some-look.ensures.answer c.if-above.false;
      };
    }
