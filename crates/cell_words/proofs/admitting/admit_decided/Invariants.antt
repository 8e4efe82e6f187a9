use Rattle.std.proofs.Common.{◌≤◌}
use Rattle.cell_words.specs.Hubs.{IsOwn, seen_by}
use Rattle.cell_words.specs.Seen.{Sees}
use Rattle.cell_words.proofs.WalksToAdmit.{Walked}
use Rattle.cell_words.proofs.admitting.admit_decided.Given as goal

abbrev pub invariant-loop-place : goal.invariant-loop-place
invariant-loop-place l = record {
  own : IsOwn l.hub l.pass l.who;
  sees : Sees (seen_by l.initial.pass) (seen_by l.pass);
  walked : Walked l.c l.low l.place l.count (seen_by l.pass).seen;
  least : l.low ≤ l.place;
  few : l.count ≤ l.most;
}
