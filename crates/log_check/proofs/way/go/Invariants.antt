use Rattle.script_reader.specs.Scripts.{program_of}
use Rattle.engine_one.specs.Trials.{TrialStands}
use Rattle.log_check.proofs.way.go.Given as goal

abbrev pub invariant-steps : goal.invariant-steps
invariant-steps g l = TrialStands (program_of l.wanted.script.now) l.trial
