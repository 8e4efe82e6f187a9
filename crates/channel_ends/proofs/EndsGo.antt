-- What a first end may give out stays so.
use Rattle.std.specs.Prelude.{◌≡◌, ℕ, ◌+◌, ◌<◌, ◌≤◌, true, false, []}
use Rattle.std.proofs.Common.{ap, ◌∙◌}
use Rattle.worded.specs.Views.{has_tag}
use Rattle.ring_channel.specs.Seen.{Seen, SameTags}

-- it gives out tags as before
pub first_stays : (n : ℕ) (v w : Seen ℕ) → SameTags v w → (n < 64 → v.chief ≡ true) → n < 64 → w.chief ≡ true
first_stays n v w same first low = ap (λ x. x.0) same.1 ∙ first low

-- and has given out the same
pub new_stays : (n : ℕ) (v w : Seen ℕ) → SameTags v w → (n < 64 → (t : ℕ) → n ≤ t → has_tag t v.given ≡ false) → n < 64
    → (t : ℕ) → n ≤ t → has_tag t w.given ≡ false
new_stays n v w same new low t up = ap (λ x. has_tag t x.1) same.1 ∙ new low t up
