use Rattle.floor_tests.specs.Shares.{IsShare}
use Rattle.word_bench.proofs.forests.work_in_turn.Given as goal

abbrev pub invariant-loop-work : goal.invariant-loop-work
invariant-loop-work g l = record {
  a : IsShare l.forest l.four.a;
  b : IsShare l.forest l.four.b;
  c : IsShare l.forest l.four.c;
  d : IsShare l.forest l.four.d;
}
