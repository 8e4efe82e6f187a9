use Rattle.std.proofs.Common.{◌≤◌}
use Rattle.cell_words.specs.Hubs.{IsOwn, seen_by}
use Rattle.cell_words.specs.Seen.{Sees, at_channel}
use Rattle.cell_words.proofs.WalksCount.{Counted}
use Rattle.cell_words.proofs.counting.enough_from.Given as goal

abbrev pub invariant-loop-place : goal.invariant-loop-place
invariant-loop-place l = record {
  own : IsOwn l.hub l.pass l.who;
  sees : Sees (seen_by l.initial.pass) (seen_by l.pass);
  given : l.end ≤ (at_channel (seen_by l.pass).seen l.c).next;
  counted : Counted l.c l.place l.count (seen_by l.initial.pass) (seen_by l.pass);
  few : l.count ≤ l.most;
}
