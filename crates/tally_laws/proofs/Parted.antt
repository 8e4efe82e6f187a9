-- How many acts of all callers pass a test, book by book.
use Rattle.std.specs.Prelude.{◌≡◌, ℕ, ◌+◌, ◌<◌, ◌≤◌, ◌==◌, Bool, true, false, cond, List, [], ◌∷◌, length, map, refl, if◌then◌else◌, slice_index_or}
use Rattle.std.proofs.Common.{sym, ap, ◌∙◌, arith, ⊎_elim}
use Rattle.std.proofs.lemmas.Bool.{eq-eqb, cases_lt}
use Rattle.channel_model.specs.Laws.{how_many}
use Rattle.tally_laws.specs.Sums.{sum_below}
use Rattle.tally_laws.proofs.Summed.{sum_add, sum_same, sum_none}
use Rattle.tally_laws.proofs.Summing.{sum_over, by_items, item_past, one_maker}
use Rattle.tally_laws.proofs.SameMembers.{IsPart}

pub both : (i j k l : ℕ) → i ≡ j → k ≡ l → i + k ≡ j + l
both i j k l x y = omega arith

none_there : {A : Type 0} (a : A) (xs : List A) → a ∷ xs ≡ [] → ⊥
none_there a xs e = cc

module _ {A E : Type 0} (who : E → ℕ) (act : E → A) (part : ℕ → List E → List A) (p : IsPart who act part) (f : A → Bool) where
  -- past so many callers nobody made an act
  abbrev NobodyPast : ℕ → List E → Type 0
  NobodyPast n es = (k : ℕ) → n ≤ k → part k es ≡ []

  first_of : (a : A) (xs : List A) (b : Bool) → how_many f (if b then a ∷ xs else xs) ≡ cond b (cond (f a) 1 0) 0 + how_many f xs
  first_of a xs true = refl
  first_of a xs false = omega arith

  own_first : (k : ℕ) (e : E) (es : List E) → how_many f (part k (e ∷ es)) ≡
      cond (who e == k) (cond (f (act e)) 1 0) 0 + how_many f (part k es)
  own_first k e es = ap (how_many f) (p.more k e es) ∙ first_of (act e) (part k es) (who e == k)

  maker_below : (n : ℕ) (e : E) (es : List E) → NobodyPast n (e ∷ es) → who e < n
  maker_below n e es h =
      ⊎_elim (λ l. l) (λ l. absurd (none_there (act e) (part (who e) es)
      (ap (λ b. if b then act e ∷ part (who e) es else part (who e) es) (sym (eq-eqb (who e) (who e) refl))
      ∙ (sym (p.more (who e) e es) ∙ h (who e) l)))) (cases_lt (who e) n)

  later_nobody : (n : ℕ) (e : E) (es : List E) → NobodyPast n (e ∷ es) → NobodyPast n es
  later_nobody n e es h k l = by_test (who e == k) (sym (p.more k e es) ∙ h k l)
    where
      by_test : (b : Bool) → (if b then act e ∷ part k es else part k es) ≡ [] → part k es ≡ []
      by_test true x = absurd (none_there (act e) (part k es) x)
      by_test false x = x

  -- the acts of all callers that pass, caller by caller
  pub by_callers : (n : ℕ) (es : List E) → NobodyPast n es → sum_below (λ k. how_many f (part k es)) n ≡ how_many f (map act es)
  by_callers n [] h = sum_none (λ k. how_many f (part k [])) n (λ i l. ap (how_many f) (p.none i))
  by_callers n (e ∷ es) h =
      sum_same (λ k. how_many f (part k (e ∷ es))) (λ k. cond (who e == k) (cond (f (act e)) 1 0) 0 + how_many f (part k es)) n
      (λ k l. own_first k e es)
      ∙ (sum_add (λ k. cond (who e == k) (cond (f (act e)) 1 0) 0) (λ k. how_many f (part k es)) n
      ∙ both _ _ _ _ (one_maker (cond (f (act e)) 1 0) n (who e) (maker_below n e es h)) (by_callers n es (later_nobody n e es h)))

  -- books that are the parts of a history have xs many acts that pass
  pub by_books : {B : Type 0} (noted : B → List A) (empty : B) (history : List E) (books : List B) → noted empty ≡ []
      → ((k : ℕ) → part k history ≡ noted (slice_index_or books k empty))
      → sum_over (λ b. how_many f (noted b)) books ≡ how_many f (map act history)
  by_books noted empty history books nothing parts =
      sym (by_items (λ b. how_many f (noted b)) empty books)
      ∙ (sum_same (λ k. how_many f (noted (slice_index_or books k empty))) (λ k. how_many f (part k history)) (length books)
      (λ k m. ap (how_many f) (sym (parts k)))
      ∙ by_callers (length books) history (λ k l. parts k ∙ (ap noted (item_past empty books k l) ∙ nothing)))
