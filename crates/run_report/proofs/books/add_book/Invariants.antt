use Rattle.std.proofs.Common.{map, drop}
use Rattle.script_reader.specs.Programs.{declared_of}
use Rattle.run_report.specs.Gatherings.{GoesOn}
use Rattle.run_report.specs.Texts.{book_text}
use Rattle.run_report.proofs.books.add_book.Given as goal

abbrev pub invariant-loop-item : goal.invariant-loop-item
invariant-loop-item l = GoesOn l.fn.text l.text (book_text (map declared_of l.channels) l.tag (drop l.item-index l.book))
    (book_text (map declared_of l.channels) l.tag l.book)
