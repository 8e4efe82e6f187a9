use Rattle.script_reader.specs.Scripts.{program_of}
use Rattle.engine_one.specs.Trials.{TrialStands}
use Rattle.end_search.proofs.parts.look_ahead.Given as goal

abbrev pub invariant-states : goal.invariant-states
invariant-states g l = TrialStands (program_of l.around.task.script.now) l.desk.trial
