use Rattle.std.proofs.Common.{◌≡◌, map, drop}
use Rattle.script_reader.specs.Programs.{declared_of}
use Rattle.note_book.specs.Books.{notes_of}
use Rattle.run_report.specs.Gatherings.{GoesOn}
use Rattle.run_report.specs.Texts.{books_text}
use Rattle.run_report.proofs.books.add_books.Given as goal

abbrev pub invariant-loop-book : goal.invariant-loop-book
invariant-loop-book l = record {
  counted : l.tag ≡ l.book-index;
  written : GoesOn l.fn.text l.text (books_text (map declared_of l.channels) l.tag (map notes_of (drop l.book-index l.books)))
      (books_text (map declared_of l.channels) 0 (map notes_of l.books));
}
