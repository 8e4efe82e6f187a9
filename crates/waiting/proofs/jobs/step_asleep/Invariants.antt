use Rattle.waiting.specs.Jobs.{GoesOn}
use Rattle.waiting.proofs.jobs.step_asleep.Given as goal

abbrev pub invariant-loop : goal.invariant-loop
invariant-loop g l = GoesOn l.initial.future l.future
