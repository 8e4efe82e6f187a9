-- Lists of the same members, and the members of books that are the parts of a history.
use Rattle.std.specs.Prelude.{◌≡◌, ℕ, zero, suc, ◌==◌, ◌⊎◌, Bool, true, false, ◌||◌, List, [], ◌∷◌, ◌++◌, map, refl, slice_index_or, if◌then◌else◌}
use Rattle.std.specs.List.{list_any}
use Rattle.std.proofs.Common.{ap, sym, ◌∙◌, subst, inl, inr, ⊎_elim}
use Rattle.std.proofs.lemmas.Bool.{eq-eqb, or_cases, or_right, cond_both}
use Rattle.channel_model.proofs.Causes.{same_truth}

-- x is one of these
unfoldable pub Among : {A : Type 0} → A → List A → Type 0
Among x [] = ⊥
Among x (y ∷ ys) = (x ≡ y) ⊎ Among x ys

pub record SameMembers {A : Type 0} (xs ys : List A) : Type 0 where
  pub to : (x : A) → Among x xs → Among x ys
  pub back : (x : A) → Among x ys → Among x xs

-- ---- tests

pub any_among : {A : Type 0} (f : A → Bool) (xs : List A) → list_any f xs ≡ true → (x : A) × Among x xs × (f x ≡ true)
unfolding Among
any_among f [] h = cc
any_among f (x ∷ xs) h = ⊎_elim (λ e. (x, inl refl, e)) (λ k. let r = any_among f xs k in (r.0, inr r.1, r.2)) (or_cases (f x) _ h)

pub among_any : {A : Type 0} (f : A → Bool) (xs : List A) (x : A) → Among x xs → f x ≡ true → list_any f xs ≡ true
unfolding Among
among_any f [] x m e = absurd m
among_any f (y ∷ ys) x m e = ⊎_elim (λ q. ap (λ b. b || list_any f ys) (ap f (sym q) ∙ e))
    (λ n. or_right (f y) (list_any f ys) (among_any f ys x n e)) m

pub same_any : {A : Type 0} (xs ys : List A) → SameMembers xs ys → (f : A → Bool) → list_any f xs ≡ list_any f ys
same_any xs ys same f = same_truth (list_any f xs) (list_any f ys)
    (λ h. let m = any_among f xs h in among_any f ys m.0 (same.to m.0 m.1) m.2)
    (λ h. let m = any_among f ys h in among_any f xs m.0 (same.back m.0 m.1) m.2)

-- ---- lists behind each other

left_among : {A : Type 0} (x : A) (xs ys : List A) → Among x xs → Among x (xs ++ ys)
unfolding Among
left_among x [] ys m = absurd m
left_among x (y ∷ xs) ys m = ⊎_elim (λ e. inl e) (λ n. inr (left_among x xs ys n)) m

right_among : {A : Type 0} (x : A) (xs ys : List A) → Among x ys → Among x (xs ++ ys)
unfolding Among
right_among x [] ys m = m
right_among x (y ∷ xs) ys m = inr (right_among x xs ys m)

split_among : {A : Type 0} (x : A) (xs ys : List A) → Among x (xs ++ ys) → Among x xs ⊎ Among x ys
unfolding Among
split_among x [] ys m = inr m
split_among x (y ∷ xs) ys m = ⊎_elim (λ e. inl (inl e)) (λ n. ⊎_elim (λ here. inl (inr here)) (λ there. inr there) (split_among x xs ys n))
    m

-- ---- the parts of a history

-- what each caller made of a history, by its entries
pub record IsPart {A E : Type 0} (who : E → ℕ) (act : E → A) (part : ℕ → List E → List A) : Type 0 where
  pub none : (k : ℕ) → part k [] ≡ []
  pub more : (k : ℕ) (e : E) (es : List E) → part k (e ∷ es) ≡ (if who e == k then act e ∷ part k es else part k es)

-- what stands in books, one behind the other
pub record IsJoined {A B : Type 0} (noted : B → List A) (all : List B → List A) : Type 0 where
  pub none : all [] ≡ []
  pub more : (b : B) (bs : List B) → all (b ∷ bs) ≡ noted b ++ all bs

module _ {A E B : Type 0} (who : E → ℕ) (act : E → A) (part : ℕ → List E → List A) (noted : B → List A) (all : List B
    → List A) (empty : B) (p : IsPart who act part) (j : IsJoined noted all) (nothing : noted empty ≡ []) where
  by_whom : (x : A) (history : List E) → Among x (map act history) → (k : ℕ) × Among x (part k history)
  unfolding Among
  by_whom x [] m = absurd m
  by_whom x (e ∷ es) m = ⊎_elim here (λ n. later (by_whom x es n)) m
    where
      here : x ≡ act e → (k : ℕ) × Among x (part k (e ∷ es))
      here q = (
        who e,
        subst (Among x) (sym (p.more (who e) e es ∙ ap (λ b. if b then act e ∷ part (who e) es else part (who e) es)
            (eq-eqb (who e) (who e) refl))) (inl q),
      )

      more : (k : ℕ) (b : Bool) → Among x (part k es) → Among x (if b then act e ∷ part k es else part k es)
      more k true n = inr n
      more k false n = n

      later : (k : ℕ) × Among x (part k es) → (k : ℕ) × Among x (part k (e ∷ es))
      later r = (r.0, subst (Among x) (sym (p.more r.0 e es)) (more r.0 (who e == r.0) r.1))

  in_history : (x : A) (k : ℕ) (history : List E) → Among x (part k history) → Among x (map act history)
  unfolding Among
  in_history x k [] m = subst (Among x) (p.none k) m
  in_history x k (e ∷ es) m =
      cond_both (who e == k) (act e ∷ part k es) (part k es) (λ l. Among x l → (x ≡ act e) ⊎ Among x (map act es))
      (λ own n. ⊎_elim (λ q. inl q) (λ more. inr (in_history x k es more)) n) (λ other n. inr (in_history x k es n))
      (subst (Among x) (p.more k e es) m)

  in_all : (x : A) (k : ℕ) (books : List B) → Among x (noted (slice_index_or books k empty)) → Among x (all books)
  in_all x k [] m = subst (Among x) (nothing ∙ sym j.none) m
  in_all x zero (b ∷ books) m = subst (Among x) (sym (j.more b books)) (left_among x (noted b) (all books) m)
  in_all x (suc k) (b ∷ books) m = subst (Among x) (sym (j.more b books)) (right_among x (noted b) (all books) (in_all x k books m))

  in_one : (x : A) (books : List B) → Among x (all books) → (k : ℕ) × Among x (noted (slice_index_or books k empty))
  unfolding Among
  in_one x [] m = absurd (subst (Among x) j.none m)
  in_one x (b ∷ books) m = ⊎_elim (λ here. (0, here)) (λ there. let r = in_one x books there
      in (suc r.0, r.1)) (split_among x (noted b) (all books) (subst (Among x) (j.more b books) m))

  -- books that are the parts of a history have its acts
  pub same_members : (history : List E) (books : List B) → ((k : ℕ) → part k history ≡ noted (slice_index_or books k empty))
      → SameMembers (map act history) (all books)
  same_members history books parts = record {
    to = λ x m. let r = by_whom x history m in in_all x r.0 books (subst (Among x) (parts r.0) r.1);
    back = λ x m. let r = in_one x books m in in_history x r.0 history (subst (Among x) (sym (parts r.0)) r.1);
  }
