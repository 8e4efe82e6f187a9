use Rattle.script_reader.specs.Scripts.{program_of}
use Rattle.engine_one.specs.Trials.{TrialStands}
use Rattle.end_search.proofs.parts.add_states.Given as goal

abbrev pub invariant-loop-state : goal.invariant-loop-state
invariant-loop-state g l = TrialStands (program_of l.task.script.now) l.desk.trial
