use Rattle.run_laws.proofs.RefusalsTold.{never_refused}
use Rattle.run_laws.proofs.laws.no_refusal_stands_in_a_book.Goals as goal

pub returns : goal.returns
returns c = never_refused
