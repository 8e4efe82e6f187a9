use Rattle.std.proofs.Common.{◌+◌, ◌∷◌, map, drop, refl, ap, subst, sym, ◌∙◌, arith}
use Rattle.std.proofs.lemmas.List.{at_drop_all, drop_more}
use Rattle.script_reader.specs.Programs.{declared_of}
use Rattle.note_book.specs.Books.{notes_of}
use Rattle.run_report.specs.Gatherings.{GoesOn}
use Rattle.run_report.specs.Texts.{books_text}
use Rattle.run_report.proofs.Gathering.{all_added, nothing_added_yet, one_book}
use Rattle.run_report.proofs.books.add_books.Goals as goal

pub loop-book-init : goal.loop-book-init
loop-book-init c = record {
  counted = refl;
  written = nothing_added_yet c.args.text.now (books_text (map declared_of c.args.channels.now) 0 (map notes_of c.args.books.now));
}

pub loop-book-preserved : goal.loop-book-preserved
loop-book-preserved c =
    let books = c.args.books.now in
    let i = c.loop-book.book-index in
    record {
      counted = omega (arith, c.loop-book.invariant.counted);
      written = one_book (map declared_of c.args.channels.now) c.loop-book.tag c.args.text.now c.loop-book.text c.add_book.new.text
          c.book-item.result c.items.result.now (drop i books) (drop (i + 1) books)
          (books_text (map declared_of c.args.channels.now) 0 (map notes_of books))
          (ap (λ x. x ∷ drop (i + 1) books) c.book-item.is ∙ sym (drop_more books i c.book-item.result (omega arith)))
          c.items.ensures c.add_book.ensures c.loop-book.invariant.written;
    }

pub returns : goal.returns
returns c =
    let channels = map declared_of c.args.channels.now in
    let books = c.args.books.now in
    let all = books_text channels 0 (map notes_of books) in
    all_added c.args.text.now c.loop-book.text all
    (subst (λ l. GoesOn c.args.text.now c.loop-book.text l all)
    (at_drop_all (λ l. books_text channels c.loop-book.tag (map notes_of l)) books c.loop-book.book-index (omega arith))
    c.loop-book.invariant.written)
