-- Names and their places.
use Rattle.std.proofs.Common.{◌≡◌, ℕ, ◌+◌, List, [], ◌∷◌, ◌++◌, refl, ap, sym, ◌∙◌, arith, Bool, true, false, Option, Some, None, length, if◌then◌else◌}
use Rattle.std.specs.Str.{bytes_eq}
use Rattle.std.proofs.lemmas.Slice.Eq.{bytes_eq-Decides}
use Rattle.script_grammar.specs.Places.{place_from}

clash : (x y q : List ℕ) → bytes_eq y q ≡ true → bytes_eq x q ≡ true → bytes_eq y x ≡ false → ⊥
clash x y q p e apart = let z : false ≡ true = sym apart ∙ ap (λ w. bytes_eq y w) ((bytes_eq-Decides x q).0 e) ∙ p in cc

behind : (i n : ℕ) (x q y : List ℕ) (names : List (List ℕ)) (s t : Bool) → bytes_eq y q ≡ s → bytes_eq x q ≡ t → bytes_eq y x ≡ false
    → n ≡ i + 1 + length names → (r : Option ℕ) → r ≡ (if t then Some (i + 1 + length names) else place_from (i + 1) q names)
    → (if s then Some i else r) ≡ (if t then Some n else (if s then Some i else place_from (i + 1) q names))
behind i n x q y names false true p e apart c r is = is ∙ ap (λ m. Some m) (sym c)
behind i n x q y names false false p e apart c r is = is
behind i n x q y names true false p e apart c r is = refl
behind i n x q y names true true p e apart c r is = absurd (clash x y q p e apart)

next : (i n : ℕ) (x q y : List ℕ) (names : List (List ℕ)) (b : Bool) → bytes_eq y x ≡ b → n ≡ i + 1 + length names
    → (if b then Some i else place_from (i + 1) x names) ≡ None
    → (place_from (i + 1) x names ≡ None → place_from (i + 1) q (names ++ x ∷ []) ≡
    (if bytes_eq x q then Some (i + 1 + length names) else place_from (i + 1) q names))
    → (if bytes_eq y q then Some i else place_from (i + 1) q (names ++ x ∷ [])) ≡
    (if bytes_eq x q then Some n else (if bytes_eq y q then Some i else place_from (i + 1) q names))
next i n x q y names true e c none rest = cc
next i n x q y names false e c none rest = behind i n x q y names (bytes_eq y q) (bytes_eq x q) refl refl e c
    (place_from (i + 1) q (names ++ x ∷ [])) (rest none)

-- a name that is new stands behind the others
pub place_from-push : (i : ℕ) (x q : List ℕ) (names : List (List ℕ)) → place_from i x names ≡ None
    → place_from i q (names ++ x ∷ []) ≡ (if bytes_eq x q then Some (i + length names) else place_from i q names)
place_from-push i x q [] none = let same : i ≡ i + 0 = omega arith in ap (λ n. if bytes_eq x q then Some n else None) same
place_from-push i x q (y ∷ names) none = next i (i + length (y ∷ names)) x q y names (bytes_eq y x) refl (omega arith) none
    (λ f. place_from-push (i + 1) x q names f)
