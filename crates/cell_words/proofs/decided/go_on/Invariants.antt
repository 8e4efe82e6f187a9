use Rattle.std.proofs.Common.{◌≤◌}
use Rattle.cell_words.specs.Hubs.{shape_of, IsOwn, seen_by}
use Rattle.cell_words.specs.Seen.{Sees}
use Rattle.word_rules.specs.Words.{WereDecided}
use Rattle.cell_words.proofs.decided.go_on.Given as goal

abbrev pub invariant-loop-place : goal.invariant-loop-place
invariant-loop-place l = record {
  own : IsOwn l.hub l.pass l.who;
  sees : Sees (seen_by l.initial.pass) (seen_by l.pass);
  least : l.known.from ≤ l.place;
  decided : WereDecided (shape_of l.hub) (seen_by l.pass).seen l.c l.known.from l.place l.count;
}
