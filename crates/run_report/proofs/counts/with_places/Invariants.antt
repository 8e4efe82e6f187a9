use Rattle.std.proofs.Common.{◌≡◌, ◌+◌, ◌*◌}
use Rattle.run_report.specs.Known.{element_in}
use Rattle.run_report.specs.Summaries.{HasElementsUpTo, with_places}
use Rattle.run_report.proofs.counts.with_places.Given as goal

abbrev pub invariant-loop-place : goal.invariant-loop-place
invariant-loop-place l = record {
  counted : l.counts ≡ with_places (element_in l.known) l.c l.fn.counts l.place;
  before : l.before ≡ l.c * 4294967296 + l.place;
  fit : HasElementsUpTo l.before l.counts;
}
