use Rattle.tally_laws.proofs.Tallied.{run_tallied}
use Rattle.tally_laws.proofs.runs.a_run_is_tallied_book_by_book.Goals as goal

pub returns : goal.returns
returns c = run_tallied
