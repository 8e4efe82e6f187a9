use Rattle.std.proofs.Common.{◌-◌}
use Rattle.cell_words.specs.Hubs.{shape_of, IsOwn, seen_by}
use Rattle.cell_words.specs.Seen.{Sees}
use Rattle.word_rules.specs.Words.{WereDecided}
use Rattle.cell_words.proofs.decided.drop_back.Given as goal

abbrev pub invariant-loop-passed : goal.invariant-loop-passed
invariant-loop-passed l = record {
  own : IsOwn l.hub l.pass l.who;
  sees : Sees (seen_by l.initial.pass) (seen_by l.pass);
  decided : WereDecided (shape_of l.hub) (seen_by l.pass).seen l.c l.known.from (l.known.to - l.passed) l.count;
}
