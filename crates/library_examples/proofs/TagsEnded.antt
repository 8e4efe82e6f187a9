-- Both tags that the first pass has given out have come back to it.
use Rattle.std.specs.Prelude.{◌≡◌, ℕ, ◌==◌, Bool, true, false, ◌||◌, List, [], ◌∷◌, if◌then◌else◌, refl}
use Rattle.std.proofs.Common.{sym, ap, ◌∙◌}
use Rattle.worded.specs.Views.{has_tag}

one_of_two : (x y : Bool) → (if y then true else (if x then true else false)) ≡ true
    → ((if x then true else false) || (if y then true else false)) ≡ true
one_of_two true y h = refl
one_of_two false true h = refl
one_of_two false false h = cc

pub both_ended : (given a b one : List ℕ) → given ≡ 1 ∷ 0 ∷ [] → a ≡ 0 ∷ [] → one ≡ 1 ∷ []
    → ((t : ℕ) → has_tag t b ≡ (has_tag t a || has_tag t one))
    → (t : ℕ) → has_tag t given ≡ true → has_tag t b ≡ true
both_ended given a b one g is is_one all t h =
    all t ∙ (λ i. has_tag t (is i) || has_tag t (is_one i)) ∙ one_of_two (t == 0) (t == 1) (sym (ap (has_tag t) g) ∙ h)
