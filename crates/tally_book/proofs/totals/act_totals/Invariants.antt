use Rattle.std.proofs.Common.{◌≡◌, drop}
use Rattle.tally_laws.specs.Counts.{added}
use Rattle.tally_laws.specs.Tallies.{tallied}
use Rattle.tally_book.specs.Totals.{AreActsOf, counts_in}
use Rattle.tally_book.proofs.totals.act_totals.Given as goal

abbrev pub invariant-loop-at : goal.invariant-loop-at
invariant-loop-at l = record {
  sum : added (counts_in l.totals) (tallied (drop l.at l.tallies)) ≡ tallied l.tallies;
  fit : AreActsOf l.at l.totals;
}
