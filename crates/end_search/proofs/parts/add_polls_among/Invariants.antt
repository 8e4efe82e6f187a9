use Rattle.script_reader.specs.Scripts.{program_of}
use Rattle.engine_one.specs.Trials.{TrialStands}
use Rattle.end_search.proofs.parts.add_polls_among.Given as goal

abbrev pub invariant-polls : goal.invariant-polls
invariant-polls g l = TrialStands (program_of l.around.task.script.now) l.desk.trial
