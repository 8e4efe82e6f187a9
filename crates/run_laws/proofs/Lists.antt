-- Lists with one more at the end, and tags that count up.
use Rattle.std.specs.Prelude.{◌≡◌, ℕ, zero, suc, ◌+◌, ◌<◌, ◌≤◌, List, [], ◌∷◌, ◌++◌, length, map, refl}
use Rattle.std.specs.List.{All, remove}
use Rattle.std.proofs.Common.{sym, ap, ◌∙◌, arith, get_or}
use Rattle.std.proofs.lemmas.List.{map-append, length-map}
use Rattle.std.proofs.lemmas.List.Elements.{All-head, All-tail, All-cons, All-nil}
use mathlib.Core.Option.{some, some-injective, some-ne-none}
use lib.ListN.{get_elem?}
use Rattle.script_grammar.specs.Programs.{Program}
use Rattle.script_grammar.specs.WellFormed.{IsProgram}
use Rattle.script_grammar.specs.Tags.{coroutine_count}
use Rattle.script_grammar.proofs.Layouts.{main_fits}
use Rattle.script_grammar.proofs.JobsCounted.{whole_load-job_count}
use Rattle.run_laws.specs.Sights.{CountUp}

-- ---- one more

pub all_but_last : {X : Type 0} (P : X → Type 0) (xs : List X) (x : X) → All P (xs ++ x ∷ []) → All P xs
all_but_last P [] x h = All-nil P
all_but_last P (y ∷ ys) x h = All-cons P y ys (All-head P y (ys ++ x ∷ []) h) (all_but_last P ys x (All-tail P y (ys ++ x ∷ []) h))

pub the_last : {X : Type 0} (P : X → Type 0) (xs : List X) (x : X) → All P (xs ++ x ∷ []) → P x
the_last P [] x h = All-head P x [] h
the_last P (y ∷ ys) x h = the_last P ys x (All-tail P y (ys ++ x ∷ []) h)

pub first_of : {X : Type 0} (xs rest : List X) (x : X) → 0 < length xs → x ≡ get_or xs 0 x → rest ≡ remove xs 0 → xs ≡ x ∷ rest
first_of [] rest x lt e r = absurd (omega (arith, lt))
first_of (y ∷ ys) rest x lt e r = cons_same y x ys rest (sym e) (sym r)
  where
    cons_same : {X : Type 0} (a b : X) (us vs : List X) → a ≡ b → us ≡ vs → a ∷ us ≡ b ∷ vs
    cons_same a b us vs e q = ap (λ l. a ∷ l) q ∙ ap (λ z. z ∷ vs) e

-- ---- tags

module _ {X : Type 0} (tag : X → ℕ) where
  pub tags_push : (xs ys : List X) (x y : X) → map tag ys ≡ map tag xs → tag y ≡ tag x → map tag (ys ++ y ∷ []) ≡ map tag (xs ++ x ∷ [])
  tags_push xs ys x y e q = map-append tag ys (y ∷ []) ∙ ap (λ l. l ++ tag y ∷ []) e ∙ ap (λ n. map tag xs ++ n ∷ []) q
      ∙ sym (map-append tag xs (x ∷ []))

  from_counts : (n : ℕ) (xs : List X) → CountUp n (map tag xs) → (t : ℕ) (y : X) → get_elem? xs t ≡ some y → tag y ≡ n + t
  from_counts n [] h t y e = absurd (some-ne-none y (sym e))
  from_counts n (x ∷ xs) h zero y e = ap tag (sym (some-injective x y e)) ∙ h.0 ∙ (let z : n ≡ n + 0 = omega arith in z)
  from_counts n (x ∷ xs) h (suc t) y e = from_counts (suc n) xs h.1 t y e ∙ (let z : suc n + t ≡ n + suc t = omega arith in z)

  pub have_tags : (xs : List X) → CountUp 0 (map tag xs) → (t : ℕ) (y : X) → get_elem? xs t ≡ some y → tag y ≡ t
  have_tags xs h t y e = from_counts 0 xs h t y e ∙ (let z : 0 + t ≡ t = omega arith in z)

  to_counts : (n : ℕ) (xs : List X) → ((t : ℕ) (y : X) → get_elem? xs t ≡ some y → tag y ≡ n + t) → CountUp n (map tag xs)
  to_counts n [] h = tt
  to_counts n (x ∷ xs) h = (
    h 0 x refl ∙ (let z : n + 0 ≡ n = omega arith in z),
    to_counts (suc n) xs (λ t y e. h (suc t) y e ∙ (let z : n + suc t ≡ suc n + t = omega arith in z)),
  )

  pub count_up : (xs : List X) → ((t : ℕ) (y : X) → get_elem? xs t ≡ some y → tag y ≡ t) → CountUp 0 (map tag xs)
  count_up xs h = to_counts 0 xs (λ t y e. h t y e ∙ (let z : t ≡ 0 + t = omega arith in z))

  pub same_length : (xs ys : List X) → map tag ys ≡ map tag xs → length ys ≡ length xs
  same_length xs ys e = sym (length-map ys tag) ∙ ap length e ∙ length-map xs tag

pub few_coroutines : (p : Program) → IsProgram p → coroutine_count p ≤ 16000
few_coroutines p ok = let load = ok.load in let whole = whole_load-job_count p ok in omega (arith, load, whole)

-- there is a coroutine at least
pub some_coroutine : (p : Program) → IsProgram p → 0 < coroutine_count p
some_coroutine p ok = let fits = main_fits p ok in omega (arith, fits)
