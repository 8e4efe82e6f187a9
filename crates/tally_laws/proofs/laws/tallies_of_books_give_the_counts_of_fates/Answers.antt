use Rattle.tally_laws.proofs.Declared.{declared_books}
use Rattle.tally_laws.proofs.laws.tallies_of_books_give_the_counts_of_fates.Goals as goal

pub returns : goal.returns
returns c = declared_books
