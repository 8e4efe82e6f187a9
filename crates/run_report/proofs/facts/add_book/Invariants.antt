use Rattle.std.proofs.Common.{◌≡◌, ℕ, drop}
use Rattle.note_book.specs.Items.{channel_acts_in}
use Rattle.run_report.specs.Facts.{facts_of, joined}
use Rattle.run_report.specs.Tables.{value_at}
use Rattle.run_report.proofs.facts.add_book.Given as goal

abbrev pub invariant-loop-item : goal.invariant-loop-item
invariant-loop-item l = record {
  plain : l.table.plain ≡ l.fn.table.plain;
  joined : (c p : ℕ) → joined (value_at l.table c p) (facts_of c p (channel_acts_in (drop l.item-index l.notes)))
      ≡ joined (value_at l.fn.table c p) (facts_of c p (channel_acts_in l.notes));
}
