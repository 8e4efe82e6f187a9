use Rattle.script_reader.specs.Scripts.{program_of}
use Rattle.engine_one.specs.Trials.{TrialStands}
use Rattle.end_search.proofs.ways.look_from_desk.Given as goal

abbrev pub invariant-loop : goal.invariant-loop
invariant-loop g l = TrialStands (program_of l.search.task.script.now) l.desk.trial
