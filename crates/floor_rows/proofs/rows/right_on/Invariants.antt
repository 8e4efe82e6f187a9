use Rattle.std.proofs.Common.{◌≡◌, ℕ, true}
use Rattle.floor_rows.specs.Known.{Knows}
use Rattle.floor_rows.proofs.rows.right_on.Given as goal

abbrev pub invariant-loop-i : goal.invariant-loop-i
invariant-loop-i g l = record {
  all : (t : ℕ) → (g.F.ChannelFloor.view l.floor).callers t ≡ true;
  knows : Knows l.known (g.F.ChannelFloor.view l.floor);
}
