use Rattle.script_grammar.proofs.LaunchesCounted.{sizes_of-launched}
use Rattle.script_grammar.proofs.laws.a_launch_counts_as_often_as_it_runs.Goals as goal

pub returns : goal.returns
returns c = sizes_of-launched
