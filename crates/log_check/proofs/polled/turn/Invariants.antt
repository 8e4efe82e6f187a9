use Rattle.script_reader.specs.Scripts.{program_of}
use Rattle.engine_one.specs.Trials.{TrialStands}
use Rattle.log_check.proofs.polled.turn.Given as goal

abbrev pub invariant-tags : goal.invariant-tags
invariant-tags g l = TrialStands (program_of l.script) l.polled.trial
