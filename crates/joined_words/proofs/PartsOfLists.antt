-- The entries and the tags of a part, in longer lists.
use Rattle.std.proofs.Common.{◌≡◌, ◌≢◌, ℕ, ◌/◌, ◌%◌, ◌<◌, arith, eqb, Bool, true, false, if◌then◌else◌, List, [], ◌∷◌, ◌++◌, refl, sym, ap, ◌∙◌, eq-eqb, ne_eqb}
use mathlib.Core.Logic.{dite}
use mathlib.Core.Option.{Option, some, none}
use mathlib.Core.List.{IsPrefix}
use native.Mathlib.Decide.{ℕ_discrete}
use Rattle.worded.specs.Views.{has_tag}
use Rattle.worded.specs.Histories.{entries_of}
use Rattle.joined_words.specs.Parts.{kept, entries_in, tag_in, tags_in}

kept-append : {F : Type 0} (x : Option F) (fs gs : List F) → kept x (fs ++ gs) ≡ kept x fs ++ gs
kept-append none fs gs = refl
kept-append (some f) fs gs = refl

module _ {E F : Type 0} (read : E → Option F) where
  pub entries-append : (xs ys : List E) → entries_in read (xs ++ ys) ≡ entries_in read xs ++ entries_in read ys
  entries-append [] ys = refl
  entries-append (x ∷ xs) ys = ap (kept (read x)) (entries-append xs ys) ∙ kept-append (read x) (entries_in read xs) (entries_in read ys)

  pub one_more : (xs : List E) (e : E) (f : F) → read e ≡ some f → entries_in read (xs ++ e ∷ []) ≡ entries_in read xs ++ f ∷ []
  one_more xs e f is = entries-append xs (e ∷ []) ∙ ap (λ x. entries_in read xs ++ kept x []) is

  pub prefix_in : (xs ys : List E) → IsPrefix xs ys → IsPrefix (entries_in read xs) (entries_in read ys)
  prefix_in xs ys p = (entries_in read p.0, sym (entries-append xs p.0) ∙ ap (entries_in read) p.1)

pub tags-append : (place : ℕ) (xs ys : List ℕ) → tags_in place (xs ++ ys) ≡ tags_in place xs ++ tags_in place ys
tags-append place [] ys = refl
tags-append place (x ∷ xs) ys = by_test (eqb (x % 2) place) (tags-append place xs ys)
  where
    by_test : (b : Bool) → tags_in place (xs ++ ys) ≡ tags_in place xs ++ tags_in place ys
        → (if b then x / 2 ∷ tags_in place (xs ++ ys) else tags_in place (xs ++ ys))
        ≡ (if b then x / 2 ∷ tags_in place xs else tags_in place xs) ++ tags_in place ys
    by_test true h = ap (λ l. x / 2 ∷ l) h
    by_test false h = h

-- the tag of a part is one of every two, and this one
pub tag_place : (place t : ℕ) → place < 2 → tag_in place t % 2 ≡ place
tag_place place t lt = omega arith

pub tag_half : (place t : ℕ) → place < 2 → tag_in place t / 2 ≡ t
tag_half place t lt = omega arith

tag_back : (place t : ℕ) → t % 2 ≡ place → t ≡ tag_in place (t / 2)
tag_back place t is = omega arith

-- the first of the tags is the part's
pub tags_one : (place t : ℕ) (ts : List ℕ) → place < 2 → tags_in place (tag_in place t ∷ ts) ≡ t ∷ tags_in place ts
tags_one place t ts lt = ap (λ (b : Bool). if b then tag_in place t / 2 ∷ tags_in place ts else tags_in place ts)
    (eq-eqb (tag_in place t % 2) place (tag_place place t lt)) ∙ ap (λ x. x ∷ tags_in place ts) (tag_half place t lt)

-- a part has a tag exactly if the table has it
pub has_tag-in : (place t : ℕ) (ts : List ℕ) → place < 2 → has_tag t (tags_in place ts) ≡ has_tag (tag_in place t) ts
has_tag-in place t [] lt = refl
has_tag-in place t (u ∷ us) lt = dite (ℕ_discrete (u % 2) place)
    (λ is. ap (λ (b : Bool). has_tag t (if b then u / 2 ∷ tags_in place us else tags_in place us)) (eq-eqb (u % 2) place is)
    ∙ ap2 is (has_tag-in place t us lt))
    (λ ne. ap (λ (b : Bool). has_tag t (if b then u / 2 ∷ tags_in place us else tags_in place us)) (ne_eqb (u % 2) place ne)
    ∙ has_tag-in place t us lt
    ∙ sym (ap (λ (b : Bool). if b then true else has_tag (tag_in place t) us)
    (ne_eqb (tag_in place t) u (λ e. ne (sym (ap (λ x. x % 2) e) ∙ tag_place place t lt)))))
  where
    same : u % 2 ≡ place → eqb t (u / 2) ≡ eqb (tag_in place t) u
    same is = dite (ℕ_discrete t (u / 2))
        (λ e. eq-eqb t (u / 2) e ∙ sym (eq-eqb (tag_in place t) u (ap (tag_in place) e ∙ sym (tag_back place u is))))
        (λ ne. ne_eqb t (u / 2) ne ∙ sym (ne_eqb (tag_in place t) u (λ e. ne (sym (tag_half place t lt) ∙ ap (λ x. x / 2) e))))

    ap2 : u % 2 ≡ place → has_tag t (tags_in place us) ≡ has_tag (tag_in place t) us
        → has_tag t (u / 2 ∷ tags_in place us) ≡ has_tag (tag_in place t) (u ∷ us)
    ap2 is h = ap (λ (b : Bool). if b then true else has_tag t (tags_in place us)) (same is)
        ∙ ap (λ (x : Bool). if eqb (tag_in place t) u then true else x) h

-- what one tag of a part did is what it did in the part
module _ {E F : Type 0} (read : E → Option F) (who : E → ℕ) (who' : F → ℕ) (place : ℕ) (lt : place < 2)
    (own : (e : E) (f : F) → read e ≡ some f → who e ≡ tag_in place (who' f))
    (apart : (e : E) (t : ℕ) → read e ≡ none → who e ≢ tag_in place t) where
  pub entries_of-in : (t : ℕ) (es : List E) → entries_of who' t (entries_in read es) ≡ entries_in read (entries_of who (tag_in place t) es)
  entries_of-in t [] = refl
  entries_of-in t (e ∷ es) = by_read (read e) refl (entries_of-in t es)
    where
      rest : List E
      rest = entries_of who (tag_in place t) es

      of_test : {b c : Bool} → b ≡ c → entries_in read (if c then e ∷ rest else rest) ≡ entries_in read (if b then e ∷ rest else rest)
      of_test is = ap (λ (x : Bool). entries_in read (if x then e ∷ rest else rest)) (sym is)

      same : (f : F) → read e ≡ some f → eqb (who e) (tag_in place t) ≡ eqb (who' f) t
      same f is = dite (ℕ_discrete (who' f) t)
          (λ h. eq-eqb (who e) (tag_in place t) (own e f is ∙ ap (tag_in place) h) ∙ sym (eq-eqb (who' f) t h))
          (λ ne. ne_eqb (who e) (tag_in place t) (λ h. ne (sym (tag_half place (who' f) lt)
          ∙ ap (λ x. x / 2) (sym (own e f is) ∙ h) ∙ tag_half place t lt)) ∙ sym (ne_eqb (who' f) t ne))

      with_one : (b : Bool) (f : F) → read e ≡ some f → entries_of who' t (entries_in read es) ≡ entries_in read rest
          → (if b then f ∷ entries_of who' t (entries_in read es) else entries_of who' t (entries_in read es))
          ≡ entries_in read (if b then e ∷ rest else rest)
      with_one true f is h = ap (λ l. f ∷ l) h ∙ ap (λ x. kept x (entries_in read rest)) (sym is)
      with_one false f is h = h

      by_read : (x : Option F) → read e ≡ x → entries_of who' t (entries_in read es) ≡ entries_in read rest
          → entries_of who' t (kept x (entries_in read es)) ≡ entries_in read (if eqb (who e) (tag_in place t) then e ∷ rest else rest)
      by_read none is h = h ∙ of_test (ne_eqb (who e) (tag_in place t) (apart e t is))
      by_read (some f) is h = with_one (eqb (who' f) t) f is h ∙ of_test (same f is)
