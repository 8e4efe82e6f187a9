use Rattle.run_laws.proofs.AlongLater.{along_runs}
use Rattle.run_laws.proofs.laws.a_story_along_an_order_is_true.Goals as goal

pub returns : goal.returns
returns c = along_runs
