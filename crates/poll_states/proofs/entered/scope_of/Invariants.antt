use Rattle.std.proofs.Common.{◌≡◌, List, length}
use Rattle.script_meaning.specs.Configs.{Entered as EnteredMeant}
use Rattle.poll_states.specs.Frames.{stack_from, stack_of, IsScopeOf}
use Rattle.poll_states.proofs.entered.scope_of.Given as goal

abbrev pub invariant-loop-rest : goal.invariant-loop-rest
invariant-loop-rest l = (before : List EnteredMeant) × IsScopeOf before l.scope × (stack_of l.entered ≡ stack_from before l.rest)

abbrev pub decreases-loop-rest : goal.decreases-loop-rest
decreases-loop-rest l = length l.rest
