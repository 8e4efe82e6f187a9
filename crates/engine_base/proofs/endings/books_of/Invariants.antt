use Rattle.std.proofs.Common.{◌≡◌, map}
use Rattle.engine_base.specs.Books.{books_of}
use Rattle.engine_base.proofs.endings.books_of.Given as goal

abbrev pub invariant-loop-frame : goal.invariant-loop-frame
invariant-loop-frame g l = map g.B.NoteBook.items l.books.items ≡ books_of l.yielded
