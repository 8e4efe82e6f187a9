use Rattle.job_words.specs.Forests.{IsOwn}
use Rattle.floor_rows.proofs.forest_rows.right_of_three.Given as goal

abbrev pub invariant-loop-i : goal.invariant-loop-i
invariant-loop-i l = record {
  p : IsOwn l.forest l.p 0;
  q : IsOwn l.forest l.q 1;
  r : IsOwn l.forest l.r 2;
}
