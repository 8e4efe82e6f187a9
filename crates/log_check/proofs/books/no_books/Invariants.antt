use Rattle.std.proofs.Common.{◌≡◌, [], map, replicate}
use Rattle.note_book.specs.Books.{notes_of}
use Rattle.log_check.proofs.books.no_books.Given as goal

abbrev pub invariant-loop : goal.invariant-loop
invariant-loop l = map notes_of l.books.items ≡ replicate l.counter []
