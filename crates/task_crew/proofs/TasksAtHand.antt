-- What a seat holds as tasks come to hand and are left.
use Rattle.std.proofs.Common.{◌≡◌, ℕ, ◌<◌, true, false, true≢false, Bool, List, [], ◌∷◌, inl, inr, ⊎_elim, Option, Some, None, sym, refl, ap, ◌∙◌, subst}
use mathlib.Core.Logic.{dite}
use native.Mathlib.Decide.{ℕ_discrete}
use Rattle.task_berths.specs.Views.{has_tag, without_tag}
use Rattle.task_berths.proofs.WordsByStep.{has_here, has_else, without_here, without_else}
use Rattle.task_crew.specs.AtHand.{IsAt, AreHeld}

-- the two change places
pub held_swapped : (n : ℕ) (held : List ℕ) (a b : Option ℕ) → AreHeld n held a b → AreHeld n held b a
held_swapped n held a b h = record {
  first = h.second;
  second = h.first;
  apart = λ t p q. h.apart t q p;
  only = λ t e. ⊎_elim inr inl (h.only t e);
}

pub held_without : (n t : ℕ) (held : List ℕ) (b : Option ℕ) → AreHeld n held (Some t) b → AreHeld n (without_tag t held) None b
held_without n t held b h = record {
  first = λ u p. absurd p;
  second = λ u p. (without_else u t held (λ e. h.apart u (sym e) p) ∙ (h.second u p).0, (h.second u p).1);
  apart = λ u p q. p;
  only = λ u e. dite (ℕ_discrete u t)
      (λ same. absurd (true≢false (sym e ∙ ap (λ k. has_tag k (without_tag t held)) same ∙ without_here t held)))
      (λ ne. ⊎_elim (λ p. absurd (ne (sym p))) inr (h.only u (sym (without_else u t held ne) ∙ e)));
}

pub held_with : (n t : ℕ) (held : List ℕ) (b : Option ℕ) → AreHeld n held None b → t < n → has_tag t held ≡ false
    → AreHeld n (t ∷ held) (Some t) b
held_with n t held b h lt not = record {
  first = λ u p. (subst (λ k. has_tag k (t ∷ held) ≡ true) p (has_here t held), subst (λ k. k < n) p lt);
  second = λ u p. (
    has_else u t held (λ e. true≢false (sym (h.second u p).0 ∙ ap (λ k. has_tag k held) e ∙ not))
        ∙ (h.second u p).0,
    (h.second u p).1,
  );
  apart = λ u p q. true≢false (sym (h.second u q).0 ∙ ap (λ k. has_tag k held) (sym p) ∙ not);
  only = λ u e. dite (ℕ_discrete u t)
      (λ same. inl (sym same))
      (λ ne. ⊎_elim (λ p. absurd p) inr (h.only u (sym (has_else u t held ne) ∙ e)));
}

pub nothing_held : (n : ℕ) (held : List ℕ) → AreHeld n held None None → held ≡ []
nothing_held n [] h = refl
nothing_held n (t ∷ held) h = absurd (⊎_elim (λ p. p) (λ p. p) (h.only t (has_here t held)))

-- a list of tags that is another one
pub held_same : (n : ℕ) (held new : List ℕ) (a b : Option ℕ) → new ≡ held → AreHeld n held a b → AreHeld n new a b
held_same n held new a b e h = subst (λ l. AreHeld n l a b) (sym e) h

-- the task of this tag has a berth
pub held_tag : (n t : ℕ) (held : List ℕ) (a b : Option ℕ) → a ≡ Some t → AreHeld n held a b → t < n
held_tag n t held a b is h = (h.first t (subst (IsAt t) (sym is) refl)).1

-- a task of this tag is left
pub held_left : (n t : ℕ) (held new : List ℕ) (a b : Option ℕ) → a ≡ Some t → AreHeld n held a b → new ≡ without_tag t held
    → AreHeld n new None b
held_left n t held new a b is h e = held_same n (without_tag t held) new None b e
    (held_without n t held b (subst (λ o. AreHeld n held o b) is h))

-- a tag that neither of them has is not held
pub not_held : (n t : ℕ) (held : List ℕ) (a b : Option ℕ) → AreHeld n held a b → (IsAt t a → ⊥) → (IsAt t b → ⊥) → has_tag t held ≡ false
not_held n t held a b h neither other = go (has_tag t held) refl
  where
    go : (found : Bool) → has_tag t held ≡ found → has_tag t held ≡ false
    go true e = absurd (⊎_elim neither other (h.only t e))
    go false e = e

-- a task of this tag is taken
pub held_taken : (n t u : ℕ) (held new : List ℕ) (b : Option ℕ) → AreHeld n held None b → t < n → (IsAt t b → ⊥) → new ≡ t ∷ held → u ≡ t
    → AreHeld n new (Some u) b
held_taken n t u held new b h lt lacks e same =
    held_same n (t ∷ held) new (Some u) b e (subst (λ k. AreHeld n (t ∷ held) (Some k) b) (sym same)
    (held_with n t held b h lt (not_held n t held None b h (λ p. p) lacks)))
