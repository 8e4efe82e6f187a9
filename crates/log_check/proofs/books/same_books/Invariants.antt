use Rattle.std.proofs.Common.{◌≡◌, length, map}
use Rattle.note_book.specs.Books.{notes_of}
use Rattle.log_check.proofs.books.same_books.Given as goal

abbrev pub invariant-loop-rest : goal.invariant-loop-rest
invariant-loop-rest l = map notes_of l.rest ≡ map notes_of l.others → map notes_of l.left ≡ map notes_of l.right

abbrev pub decreases-loop-rest : goal.decreases-loop-rest
decreases-loop-rest l = length l.rest
