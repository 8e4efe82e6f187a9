-- A walk from the newest child to the oldest.
use Rattle.std.specs.Prelude.{◌≡◌, ◌≢◌, ℕ, suc, ◌+◌, ◌==◌, ◌<◌, ◌≤◌, Bool, true, false, ◌||◌, List, [], ◌∷◌, ◌++◌, length, Option, Some, None, if◌then◌else◌, refl}
use Rattle.std.specs.List.{IsDistinct, AllByRecursion}
use Rattle.std.proofs.Common.{sym, ap, ◌∙◌, subst, arith, append_assoc, eq-eqb, ne_eqb}
use Rattle.std.proofs.lemmas.List.{length-append}
use Rattle.std.proofs.lemmas.Bool.{or_parts, or_from, or_right}
use Rattle.job_model.specs.Trees.{is_among}
use Rattle.job_model.specs.Families.{newest, newest_after, older, older_after}
use Rattle.job_model.proofs.Rows.{same}
use Rattle.word_rules.specs.Rows.{row_code}
use Rattle.job_model.proofs.Siblings.{newest_from, newest_from-none}
use Rattle.job_model.proofs.Steps.{not_named}

-- the place of a child, from the oldest on
pub rank : ℕ → List ℕ → ℕ
rank c [] = 0
rank c (x ∷ xs) = if c == x then 0 else suc (rank c xs)

-- how far a walk is from its end
abbrev pub ahead : ℕ → List ℕ → ℕ
ahead next l = if next == 0 then 0 else suc (rank next l)

older_at : (o : Option ℕ) (c : ℕ) (front back : List ℕ) → is_among c front ≡ false
    → older_after o c (front ++ c ∷ back) ≡ newest_from o front
older_at o c [] back e = ap (λ b. if b then o else older_after (Some c) c back) (same c)
older_at o c (x ∷ xs) back e = ap (λ b. if b then o else older_after (Some x) c (xs ++ c ∷ back)) (or_parts (c == x) (is_among c xs) e).0
    ∙ older_at (Some x) c xs back (or_parts (c == x) (is_among c xs) e).1

pub older_is : (c : ℕ) (front back : List ℕ) → is_among c front ≡ false → older c (front ++ c ∷ back) ≡ newest front
older_is c front back e = older_at None c front back e ∙ newest_from-none front

rank_at : (c : ℕ) (front back : List ℕ) → is_among c front ≡ false → rank c (front ++ c ∷ back) ≡ length front
unfolding rank
rank_at c [] back e = ap (λ b. if b then 0 else suc (rank c back)) (same c)
rank_at c (x ∷ xs) back e = ap (λ b. if b then 0 else suc (rank c (xs ++ c ∷ back))) (or_parts (c == x) (is_among c xs) e).0
    ∙ (let k = rank_at c xs back (or_parts (c == x) (is_among c xs) e).1 in grind arith)

all_at : (x c : ℕ) (front back : List ℕ) → AllByRecursion (λ y. (x == y) ≡ false) (front ++ c ∷ back) → (x == c) ≡ false
all_at x c [] back h = h.0
all_at x c (y ∷ ys) back h = all_at x c ys back h.1

pub distinct_front : (c : ℕ) (front back : List ℕ) → IsDistinct (λ (u : ℕ) (v : ℕ). u == v) (front ++ c ∷ back) → is_among c front ≡ false
unfolding IsDistinct
distinct_front c [] back h = refl
distinct_front c (x ∷ xs) back h = or_from (c == x) (is_among c xs) (not_named x c (all_at x c xs back h.0)) (distinct_front c xs back h.1)

-- the newest of a list stands last
last_from : (c : ℕ) (cs : List ℕ) → (front : List ℕ) × (c ∷ cs ≡ front ++ newest_after c cs ∷ [])
last_from c [] = ([], refl)
last_from c (d ∷ ds) = let k = last_from d ds in (c ∷ k.0, ap (λ l. c ∷ l) k.1)

pub newest_last : (l : List ℕ) (d : ℕ) → newest l ≡ Some d → (front : List ℕ) × (l ≡ front ++ d ∷ [])
newest_last [] d e = cc
newest_last (c ∷ cs) d e = let k : newest_after c cs ≡ d = cc
    in subst (λ x. (front : List ℕ) × (c ∷ cs ≡ front ++ x ∷ [])) k (last_from c cs)

pub newest_none : (l : List ℕ) → newest l ≡ None → l ≡ []
newest_none [] e = refl
newest_none (c ∷ cs) e = cc

-- the walk stands at next, and the row is none of the newer children
abbrev pub IsAhead : List ℕ → ℕ → ℕ → Type 0
IsAhead children row next = (next ≡ 0 → is_among row children ≡ false)
    × (next ≢ 0 → (front : List ℕ) × (back : List ℕ) × (children ≡ front ++ next ∷ back) × (is_among row back ≡ false))

pub among_at : (c : ℕ) (front back : List ℕ) → is_among c (front ++ c ∷ back) ≡ true
among_at c [] back = ap (λ b. b || is_among c back) (same c)
among_at c (x ∷ xs) back = ap (λ b. (c == x) || b) (among_at c xs back) ∙ or_right (c == x) true refl

-- where the walk begins
pub begin_walk : (children : List ℕ) (row first : ℕ) → ((d : ℕ) → is_among d children ≡ true → d ≢ 0) → (o : Option ℕ) → newest children ≡ o
    → first ≡ row_code o → IsAhead children row first
begin_walk children row first some None e f = (λ z. ap (is_among row) (newest_none children e), λ ne. absurd (ne f))
begin_walk children row first some (Some d) e f =
    let k = newest_last children d e in
    let a : is_among d children ≡ true = ap (is_among d) k.1 ∙ among_at d k.0 [] in
    (λ z. absurd (some d a (sym f ∙ z)), λ ne. (k.0, [], k.1 ∙ ap (λ x. k.0 ++ x ∷ []) (sym f), refl))

-- one step of it: from a child to the next older one
pub step_walk : (children : List ℕ) (row next after : ℕ) → ((d : ℕ) → is_among d children ≡ true → d ≢ 0) → (front back : List ℕ)
    → children ≡ front ++ next ∷ back → is_among row back ≡ false → row ≢ next
    → (o : Option ℕ) → newest front ≡ o → after ≡ row_code o → IsAhead children row after
step_walk children row next after some front back e n ne None w f = (
  λ z. ap (is_among row) (e ∙ ap (λ l. l ++ next ∷ back) (newest_none front w))
      ∙ or_from (row == next) (is_among row back) (ne_eqb row next ne) n,
  λ nz. absurd (nz f),
)
step_walk children row next after some front back e n ne (Some d) w f =
    let k = newest_last front d w in
    let is : children ≡ k.0 ++ d ∷ (next ∷ back) = e ∙ ap (λ l. l ++ next ∷ back) k.1 ∙ append_assoc k.0 (d ∷ []) (next ∷ back) in
    let a : is_among d children ≡ true = ap (is_among d) is ∙ among_at d k.0 (next ∷ back) in (
      λ z. absurd (some d a (sym f ∙ z)),
      λ nz. (
        k.0,
        next ∷ back,
        is
            ∙ ap (λ x. k.0 ++ x ∷ (next ∷ back)) (sym f),
        or_from (row == next) (is_among row back) (ne_eqb row next ne) n,
      ),
    )

ahead_le : (n : ℕ) (l : List ℕ) → ahead n l ≤ suc (rank n l)
ahead_le n l = by_test (n == 0)
  where
    by_test : (b : Bool) → (if b then 0 else suc (rank n l)) ≤ suc (rank n l)
    by_test true = omega arith
    by_test false = omega arith

ahead_is : (n : ℕ) (l : List ℕ) → n ≢ 0 → ahead n l ≡ suc (rank n l)
ahead_is n l ne = ap (λ (b : Bool). if b then 0 else suc (rank n l)) (ne_eqb n 0 ne)

-- the walk comes nearer to its end
pub step_nearer : (next after : ℕ) (front back more : List ℕ) → next ≢ 0 → IsDistinct (λ (u : ℕ) (v : ℕ). u == v) (front ++ next ∷ back)
    → IsDistinct (λ (u : ℕ) (v : ℕ). u == v) ((front ++ next ∷ back) ++ more) → (o : Option ℕ) → newest front ≡ o → after ≡ row_code o
    → ahead after ((front ++ next ∷ back) ++ more) < ahead next (front ++ next ∷ back)
step_nearer next after front back more nz dist distm None w f =
    let k = ahead_is next (front ++ next ∷ back) nz in
    let l : ahead after ((front ++ next ∷ back) ++ more) ≡ 0 =
    ap (λ (b : Bool). if b then 0 else suc (rank after ((front ++ next ∷ back) ++ more))) (eq-eqb after 0 f) in
    omega arith
step_nearer next after front back more nz dist distm (Some d) w f =
    let k = newest_last front d w in
    let is : (front ++ next ∷ back) ++ more ≡ k.0 ++ d ∷ (next ∷ (back ++ more)) = append_assoc front (next ∷ back) more
    ∙ ap (λ l. l ++ next ∷ (back ++ more)) k.1 ∙ append_assoc k.0 (d ∷ []) (next ∷ (back ++ more)) in
    let here : rank d ((front ++ next ∷ back) ++ more) ≡ length k.0 = ap (rank d) is
    ∙ rank_at d k.0 (next ∷ (back ++ more)) (distinct_front d k.0 (next ∷ (back ++ more))
    (subst (IsDistinct (λ (u : ℕ) (v : ℕ). u == v)) is distm)) in
    let there : rank next (front ++ next ∷ back) ≡ length front = rank_at next front back (distinct_front next front back dist) in
    let one : length front ≡ length k.0 + 1 = ap length k.1 ∙ length-append k.0 (d ∷ []) in
    let m = ahead_is next (front ++ next ∷ back) nz in
    let n = ahead_le after ((front ++ next ∷ back) ++ more) in
    let o : rank after ((front ++ next ∷ back) ++ more) ≡ rank d ((front ++ next ∷ back) ++ more) =
    ap (λ x. rank x ((front ++ next ∷ back) ++ more)) f in
    omega arith
