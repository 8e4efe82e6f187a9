use Rattle.std.proofs.Common.{◌≡◌, length}
use Rattle.picture_parts.specs.Places.{is_among}
use Rattle.picture_parts.proofs.places.is_among.Given as goal

abbrev pub invariant-loop-rest : goal.invariant-loop-rest
invariant-loop-rest l = is_among l.tag l.rest ≡ is_among l.tag l.tags

abbrev pub decreases-loop-rest : goal.decreases-loop-rest
decreases-loop-rest l = length l.rest
