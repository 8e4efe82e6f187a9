use Rattle.script_reader.specs.Scripts.{program_of}
use Rattle.engine_one.specs.Trials.{TrialStands}
use Rattle.end_search.proofs.ways.sample_by.Given as goal

abbrev pub invariant-loop-run : goal.invariant-loop-run
invariant-loop-run g l = TrialStands (program_of l.search.task.script.now) l.trial
