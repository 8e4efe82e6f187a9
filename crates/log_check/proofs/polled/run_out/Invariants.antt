use Rattle.script_reader.specs.Scripts.{program_of}
use Rattle.engine_one.specs.Trials.{TrialStands}
use Rattle.log_check.proofs.polled.run_out.Given as goal

abbrev pub invariant-turns : goal.invariant-turns
invariant-turns g l = TrialStands (program_of l.script) l.polled.trial
