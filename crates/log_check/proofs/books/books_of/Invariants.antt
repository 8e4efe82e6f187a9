use Rattle.std.proofs.Common.{◌≡◌, length, map}
use Rattle.std.specs.List.{fold}
use Rattle.note_book.specs.Books.{notes_of}
use Rattle.log_check.specs.Logs.{books_in, with_line}
use Rattle.log_check.proofs.books.books_of.Given as goal

abbrev pub invariant-loop-rest : goal.invariant-loop-rest
invariant-loop-rest l = fold with_line (map notes_of l.books.items) l.rest ≡ books_in l.fn.count l.lines

abbrev pub decreases-loop-rest : goal.decreases-loop-rest
decreases-loop-rest l = length l.rest
