-- Lists of names, each of which is the first of its name.
use Rattle.std.proofs.Common.{◌≡◌, ℕ, ◌+◌, ◌<◌, List, [], ◌∷◌, ◌++◌, refl, ap, sym, ◌∙◌, arith, Bool, true, false, Option, Some, None, length, if◌then◌else◌, length-append, ◌⊎◌, inl, inr}
use Rattle.std.specs.List.{list_any}
use Rattle.std.specs.Str.{bytes_eq}
use Rattle.std.proofs.lemmas.Slice.Eq.{bytes_eq-Decides}
use Rattle.std.proofs.lemmas.List.{get_or_append_left}
use Rattle.std.proofs.Math.Seq.{get_or-append_seam}
use Rattle.std.proofs.lemmas.Bool.{or_parts}
use Rattle.script_grammar.specs.Programs.{name_of}
use Rattle.script_grammar.specs.Grammar.{is_name, is_fresh}
use Rattle.script_grammar.specs.Places.{place_from}
use Rattle.script_grammar.proofs.NamePlaces.{place_from-push}
use Rattle.script_grammar.proofs.Truths.{both_true, not_true}

-- each of these is formed as a name, and is the first of its name
abbrev pub Distinct : List (List ℕ) → Type 0
Distinct names = (i : ℕ) → i < length names → (is_name (name_of names i) ≡ true) × (place_from 0 (name_of names i) names ≡ Some i)

pub none_of : (i : ℕ) (name : List ℕ) (names : List (List ℕ)) → list_any (λ x. bytes_eq x name) names ≡ false
    → place_from i name names ≡ None
none_of i name [] e = refl
none_of i name (x ∷ names) e =
    let two = or_parts (bytes_eq x name) (list_any (λ y. bytes_eq y name) names) e in
    ap (λ b. if b then Some i else place_from (i + 1) name names) two.0 ∙ none_of (i + 1) name names two.1

pub fresh_none : (names : List (List ℕ)) (name : List ℕ) → is_fresh names name ≡ true → (is_name name ≡ true)
    × (place_from 0 name names ≡ None)
fresh_none names name e = let two = both_true (is_name name) _ e in (two.0, none_of 0 name names (not_true _ two.1))

pub name_of-front : (names : List (List ℕ)) (more : List (List ℕ)) (i : ℕ) → i < length names → name_of (names ++ more) i ≡ name_of names i
name_of-front names more i h = get_or_append_left names more [] i h

pub name_of-last : (names : List (List ℕ)) (name : List ℕ) → name_of (names ++ name ∷ []) (length names) ≡ name
name_of-last names name = get_or-append_seam names name [] []

earlier : (names : List (List ℕ)) (name q : List ℕ) (i : ℕ) (b : Bool) → bytes_eq name q ≡ b → place_from 0 name names ≡ None
    → place_from 0 q names ≡ Some i → (if b then Some (0 + length names) else place_from 0 q names) ≡ Some i
earlier names name q i false t none is = is
earlier names name q i true t none is = let same : name ≡ q = (bytes_eq-Decides name q).0 t
    in absurd (clash (place_from 0 q names) (sym (ap (λ w. place_from 0 w names) same) ∙ none) is)
  where
    clash : (o : Option ℕ) → o ≡ None → o ≡ Some i → ⊥
    clash o e f = cc

at_end : (i n : ℕ) → i < n + 1 → (i < n) ⊎ (i ≡ n)
at_end i n h = grind arith

-- a list with one fresh name more is such a list
pub Distinct-push : (names : List (List ℕ)) (name : List ℕ) → Distinct names → is_fresh names name ≡ true → Distinct (names ++ name ∷ [])
Distinct-push names name is fresh i h = by_place (at_end i (length names) (omega (arith, h, length-append names (name ∷ []))))
  where
    new : (is_name name ≡ true) × (place_from 0 name names ≡ None)
    new = fresh_none names name fresh

    by_place : ((i < length names) ⊎ (i ≡ length names)) → (is_name (name_of (names ++ name ∷ []) i) ≡ true)
        × (place_from 0 (name_of (names ++ name ∷ []) i) (names ++ name ∷ []) ≡ Some i)
    by_place (inl before) =
        let q = name_of-front names (name ∷ []) i before in
        let old = is i before in (
          ap is_name q ∙ old.0,
          ap (λ w. place_from 0 w (names ++ name ∷ [])) q ∙ place_from-push 0 name (name_of names i) names new.1
              ∙ earlier names name (name_of names i) i (bytes_eq name (name_of names i)) refl new.1 old.1,
        )
    by_place (inr last) =
        let q : name_of (names ++ name ∷ []) i ≡ name = ap (name_of (names ++ name ∷ [])) last ∙ name_of-last names name in (
          ap is_name q ∙ new.0,
          ap (λ w. place_from 0 w (names ++ name ∷ [])) q ∙ place_from-push 0 name name names new.1
              ∙ ap (λ b. if b then Some (0 + length names) else place_from 0 name names) ((bytes_eq-Decides name name).1 refl)
              ∙ ap (λ k. Some k) (omega (arith, last)),
        )
