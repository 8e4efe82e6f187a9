use Rattle.script_reader.specs.Scripts.{program_of}
use Rattle.engine_one.specs.Trials.{TrialStands}
use Rattle.engine_one.proofs.trial.Trial.go_to.Given as goal

abbrev pub invariant-loop-i : goal.invariant-loop-i
invariant-loop-i g l = TrialStands (program_of l.script) l.self
