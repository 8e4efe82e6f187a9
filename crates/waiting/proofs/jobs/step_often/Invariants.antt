use Rattle.waiting.specs.Jobs.{GoesOn}
use Rattle.waiting.proofs.jobs.step_often.Given as goal

abbrev pub invariant-loop : goal.invariant-loop
invariant-loop l = GoesOn l.initial.future l.future
