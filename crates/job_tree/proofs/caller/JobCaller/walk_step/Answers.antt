use Rattle.job_tree.proofs.Looks.{in_rows, never_none}
use Rattle.job_tree.proofs.caller.JobCaller.walk_step.Goals as goal

pub look-requires-clause-row : goal.look-requires-clause-row
look-requires-clause-row g c = in_rows _ _ _ (g.met.F.JobFloor.shaped c.args.self.now.floor.now)
    (g.met.F.JobFloor.legal c.args.self.now.floor.now) c.requires.can

pub returns-in_default-clause-answer : goal.returns-in_default-clause-answer
returns-in_default-clause-answer g c = never_none _ _ _ _ _ (g.met.F.JobFloor.legal c.look.new.self) c.requires.can
    c.in_default.ensures.answer
