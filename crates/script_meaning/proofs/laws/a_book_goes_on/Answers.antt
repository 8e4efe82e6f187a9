use Rattle.script_meaning.proofs.BooksGoOn.{runs_then}
use Rattle.script_meaning.proofs.laws.a_book_goes_on.Goals as goal

pub returns : goal.returns
returns c = runs_then
