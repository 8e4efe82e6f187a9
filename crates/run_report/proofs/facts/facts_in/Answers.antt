use Rattle.std.proofs.Common.{List, ◌∷◌, ◌+◌, map, ap, sym, ◌∙◌, drop, arith}
use Rattle.std.proofs.lemmas.List.{at_drop_more, at_drop_all}
use Rattle.note_book.specs.declared.notes.Notes.{Notes}
use Rattle.note_book.specs.Books.{notes_of}
use Rattle.note_book.specs.Items.{channel_acts_in}
use Rattle.run_report.specs.Elements.{channel_acts_noted}
use Rattle.run_report.specs.Facts.{facts_of, joined}
use Rattle.run_report.specs.Tables.{value_at}
use Rattle.run_report.proofs.Told.{joined-nothing, all_told_more}
use Rattle.run_report.proofs.facts.facts_in.Goals as goal

pub loop-book-preserved : goal.loop-book-preserved
loop-book-preserved c = record {
  plain = c.add_book.ensures.plain ∙ c.loop-book.invariant.plain;
  facts = λ d q.
      let books = c.args.books.now in
      let k = c.loop-book.book-index in
      let book = c.book-item.result in
      let before = value_at c.loop-book.table d q in
      let facts_in = λ (l : List Notes). facts_of d q (channel_acts_noted (map notes_of l)) in
      all_told_more before (value_at c.add_book.new.table d q) (facts_in books) d q (channel_acts_in (notes_of book))
      (channel_acts_noted (map notes_of (drop (k + 1) books)))
      (c.in_ok-add_book.ensures.joined d q ∙ ap (λ l. joined before (facts_of d q (channel_acts_in l))) c.items.ensures)
      (ap (λ b. joined before (facts_in (b ∷ drop (k + 1) books))) c.book-item.is
      ∙ ap (joined before) (sym (at_drop_more facts_in books k book (omega arith)))
      ∙ c.loop-book.invariant.facts d q);
}

pub returns-clause-facts : goal.returns-clause-facts
returns-clause-facts c = λ d q.
    let now = value_at c.loop-book.table d q in
    let facts_in = λ (l : List Notes). facts_of d q (channel_acts_noted (map notes_of l)) in
    sym (joined-nothing now)
    ∙ ap (joined now) (sym (at_drop_all facts_in c.args.books.now c.loop-book.book-index (omega arith)))
    ∙ c.loop-book.invariant.facts d q
