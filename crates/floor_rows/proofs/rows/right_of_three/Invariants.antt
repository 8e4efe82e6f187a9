use Rattle.floor_rows.specs.Callers.{IsCaller}
use Rattle.floor_rows.proofs.rows.right_of_three.Given as goal

abbrev pub invariant-loop-i : goal.invariant-loop-i
invariant-loop-i l = record {
  a : IsCaller l.hub 1 l.a l.known.a;
  b : IsCaller l.hub 2 l.b l.known.b;
  c : IsCaller l.hub 3 l.c l.known.c;
}
