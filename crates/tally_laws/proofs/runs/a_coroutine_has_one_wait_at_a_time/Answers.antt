use Rattle.tally_laws.proofs.OneAtATime.{books_of_run}
use Rattle.tally_laws.proofs.runs.a_coroutine_has_one_wait_at_a_time.Goals as goal

pub returns : goal.returns
returns c = books_of_run
