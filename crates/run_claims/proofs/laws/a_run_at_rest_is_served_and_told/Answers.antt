use Rattle.run_claims.proofs.RunsAtRest.{ran, is_run_of}
use Rattle.run_claims.proofs.laws.a_run_at_rest_is_served_and_told.Goals as goal

pub returns : goal.returns
returns c = λ p books channels jobs root run. (ran p books channels jobs root run, is_run_of p books channels jobs root run)
