use Rattle.std.proofs.Common.{◌≡◌, ℕ, drop, map}
use Rattle.note_book.specs.Books.{notes_of}
use Rattle.run_report.specs.Elements.{channel_acts_noted}
use Rattle.run_report.specs.Facts.{facts_of, joined, nothing}
use Rattle.run_report.specs.Tables.{value_at}
use Rattle.run_report.proofs.facts.facts_in.Given as goal

abbrev pub invariant-loop-book : goal.invariant-loop-book
invariant-loop-book l = record {
  plain : l.table.plain ≡ nothing;
  facts : (c p : ℕ) → joined (value_at l.table c p) (facts_of c p (channel_acts_noted (map notes_of (drop l.book-index l.books))))
      ≡ facts_of c p (channel_acts_noted (map notes_of l.books));
}
