use Rattle.script_laws.proofs.TreesAtRest.{at_rest}
use Rattle.script_laws.proofs.laws.a_run_is_at_rest.Goals as goal

pub returns : goal.returns
returns c = at_rest
