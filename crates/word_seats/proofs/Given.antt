-- Tags that a pass has not given out.
use Rattle.std.specs.Prelude.{◌≡◌, ℕ, Bool, true, false, List, refl}
use Rattle.worded.specs.Views.{has_tag}
use Rattle.word_seats.specs.Seats.{may_act}

-- who may not act was not given out, by a pass that gives out tags
pub ungiven : (chief : Bool) (given : List ℕ) (k : ℕ) → may_act chief given k ≡ false → (chief ≡ true) × (has_tag k given ≡ false)
ungiven true given k e = (refl, e)
ungiven false given k e = cc
