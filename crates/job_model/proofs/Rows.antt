-- Lists of rows.
use Rattle.std.specs.Prelude.{◌≡◌, ℕ, ◌==◌, Bool, true, false, not, ◌||◌, List, [], ◌∷◌, ◌++◌, filter, if◌then◌else◌, refl}
use Rattle.std.proofs.Common.{sym, ap, ◌∙◌, subst, arith}
use Rattle.std.proofs.lemmas.Bool.{eqb-true, or_right, not-false}
use Rattle.std.proofs.lemmas.Bool.Decides.{nat_tests}
use Rattle.std.proofs.lemmas.List.Folds.{list_any-append}
use Rattle.job_model.specs.Trees.{is_among, is_none_left}

pub among-push : (c r : ℕ) (rows : List ℕ) → is_among c (rows ++ r ∷ []) ≡ (is_among c rows || (c == r))
among-push c r rows = list_any-append (λ q. c == q) rows (r ∷ []) ∙ ap (λ b. is_among c rows || b) (or_false (c == r))
  where
    or_false : (b : Bool) → (b || false) ≡ b
    or_false true = refl
    or_false false = refl

pub among_more : (c r : ℕ) (rows : List ℕ) → is_among c rows ≡ true → is_among c (rows ++ r ∷ []) ≡ true
among_more c r rows e = among-push c r rows ∙ ap (λ b. b || (c == r)) e

pub same : (c : ℕ) → (c == c) ≡ true
same c = grind (arith, nat_tests)

pub among_last : (c : ℕ) (rows : List ℕ) → is_among c (rows ++ c ∷ []) ≡ true
among_last c rows = among-push c c rows ∙ ap (λ b. is_among c rows || b) (same c) ∙ or_right (is_among c rows) true refl

-- what stands in a longer list stood before, or is the new one
pub among_before : (P : Type 0) (c r : ℕ) (rows : List ℕ) → is_among c (rows ++ r ∷ []) ≡ true → (is_among c rows ≡ true → P) → (c ≡ r → P)
    → P
among_before P c r rows e old new = by_test (is_among c rows) refl
  where
    by_test : (b : Bool) → is_among c rows ≡ b → P
    by_test true f = old f
    by_test false f = new (eqb-true c r (sym (among-push c r rows ∙ ap (λ b. b || (c == r)) f) ∙ e))

-- a filter that lets less through leaves nothing where the other did
pub none_left_of_less : (f g : ℕ → Bool) (rows : List ℕ) → ((c : ℕ) → f c ≡ false → g c ≡ false) → is_none_left (filter f rows) ≡ true
    → is_none_left (filter g rows) ≡ true
none_left_of_less f g [] h e = e
none_left_of_less f g (c ∷ cs) h e = by_test (f c) refl e (none_left_of_less f g cs h)
  where
    by_test : (b : Bool) → f c ≡ b → is_none_left (if b then c ∷ filter f cs else filter f cs) ≡ true
        → (is_none_left (filter f cs) ≡ true → is_none_left (filter g cs) ≡ true)
        → is_none_left (if g c then c ∷ filter g cs else filter g cs) ≡ true
    by_test true k e rest = cc
    by_test false k e rest = subst (λ b. is_none_left (if b then c ∷ filter g cs else filter g cs) ≡ true) (sym (h c k)) (rest e)

pub not_among_more : (c r : ℕ) (rows : List ℕ) → not (is_among c rows) ≡ false → not (is_among c (rows ++ r ∷ [])) ≡ false
not_among_more c r rows e = ap not (among_more c r rows (not-false (is_among c rows) e))
