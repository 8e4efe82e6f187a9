-- The three tags that the first pass has given out have come back to it.
use Rattle.std.specs.Prelude.{◌≡◌, ℕ, ◌==◌, Bool, true, false, ◌||◌, List, [], ◌∷◌, if◌then◌else◌, refl}
use Rattle.std.proofs.Common.{sym, ap, ◌∙◌}
use Rattle.worded.specs.Views.{has_tag}

one_of_three : (x y z : Bool)
    → (if z then true else (if y then true else (if x then true else false))) ≡ true
    → (((if x then true else false) || (if y then true else false)) || (if z then true else false)) ≡ true
one_of_three true y z h = refl
one_of_three false true z h = refl
one_of_three false false true h = refl
one_of_three false false false h = cc

pub all_ended : (given a b c one two : List ℕ) → given ≡ 2 ∷ 1 ∷ 0 ∷ [] → a ≡ 0 ∷ [] → one ≡ 1 ∷ [] → two ≡ 2 ∷ []
    → ((t : ℕ) → has_tag t b ≡ (has_tag t a || has_tag t one))
    → ((t : ℕ) → has_tag t c ≡ (has_tag t b || has_tag t two))
    → (t : ℕ) → has_tag t given ≡ true → has_tag t c ≡ true
all_ended given a b c one two g is is_one is_two first second t h =
    second t ∙ ap (λ x. x || has_tag t two) (first t)
    ∙ (λ i. (has_tag t (is i) || has_tag t (is_one i)) || has_tag t (is_two i))
    ∙ one_of_three (t == 0) (t == 1) (t == 2) (sym (ap (has_tag t) g) ∙ h)
