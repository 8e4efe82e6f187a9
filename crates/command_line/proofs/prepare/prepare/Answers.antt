use Rattle.command_line.proofs.prepare.prepare.Goals as goal

pub returns-in-Ok-clause-prepares : goal.returns-in-Ok-clause-prepares
returns-in-Ok-clause-prepares g c = rw c.in-Some.is (rw c.in-Run.is (c.to_run.ensures _ _ c.in-Ok.ensures.gives))
