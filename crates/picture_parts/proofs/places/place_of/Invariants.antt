use Rattle.std.proofs.Common.{◌≡◌, ◌+◌, length}
use Rattle.picture_parts.specs.Places.{place_from}
use Rattle.picture_parts.proofs.places.place_of.Given as goal

abbrev pub invariant-loop-rest : goal.invariant-loop-rest
invariant-loop-rest l = record {
  place : place_from l.i l.tag l.rest ≡ place_from 0 l.tag l.tags;
  count : l.i + length l.rest ≡ length l.tags;
}

abbrev pub decreases-loop-rest : goal.decreases-loop-rest
decreases-loop-rest l = length l.rest
