-- Which seats hold which tags, and what is known of a tag that none holds.
use Rattle.std.proofs.Common.{◌≡◌, ◌≢◌, ℕ, zero, suc, ◌<◌, eqb, Bool, true, false, true≢false, ◌||◌, if◌then◌else◌, List, [], ◌∷◌, ◌++◌, length, set, sym, refl, ap, ◌∙◌, subst, ⊎_elim, arith, append-nil}
use mathlib.Core.Logic.{dite}
use mathlib.Core.Option.{some, some-injective, some-ne-none}
use native.Mathlib.Decide.{ℕ_discrete}
use lib.ListN.{get_elem?}
use Rattle.atomic_table.specs.Table.{State}
use Rattle.atomic_table.proofs.Lists.{set_here, set_else}
use Rattle.worded.specs.declared.view.View.{View}
use Rattle.worded.specs.Views.{has_tag, holds_tag, having_seen}
use mathlib.Core.List.{IsPrefix}
use Rattle.worded.specs.Histories.{entries_of, HasTag, HasOneHistory, AreSeatsOf}
use Rattle.worded.proofs.TagsAndPrefixes.{same_id, has_tag-append}

pub has_tag-or : (t : ℕ) (xs ys : List ℕ) → has_tag t (xs ++ ys) ≡ (has_tag t xs || has_tag t ys)
has_tag-or t [] ys = refl
has_tag-or t (x ∷ xs) ys = by_test (eqb t x) (has_tag-or t xs ys)
  where
    by_test : (b : Bool) → has_tag t (xs ++ ys) ≡ (has_tag t xs || has_tag t ys)
        → (if b then true else has_tag t (xs ++ ys)) ≡ ((if b then true else has_tag t xs) || has_tag t ys)
    by_test true h = refl
    by_test false h = h

pub or_true : (b : Bool) → (b || true) ≡ true
or_true true = refl
or_true false = refl

-- ---- what is at a place of a list

pub below_length : {A : Type 0} (l : List A) (i : ℕ) (a : A) → get_elem? l i ≡ some a → i < length l
below_length [] i a e = absurd (some-ne-none a (sym e))
below_length (x ∷ xs) zero a e = omega arith
below_length (x ∷ xs) (suc i) a e = let h = below_length xs i a e in omega arith

at_longer : {A : Type 0} (l : List A) (x a : A) (i : ℕ) → get_elem? l i ≡ some a → get_elem? (l ++ x ∷ []) i ≡ some a
at_longer [] x a i e = absurd (some-ne-none a (sym e))
at_longer (y ∷ ys) x a zero e = e
at_longer (y ∷ ys) x a (suc i) e = at_longer ys x a i e

pub at_last : {A : Type 0} (l : List A) (x : A) → get_elem? (l ++ x ∷ []) (length l) ≡ some x
at_last [] x = refl
at_last (y ∷ ys) x = at_last ys x

module _ {E K : Type 0} where
  -- a seat that has seen more holds the same tags
  pub still_holds : (t : ℕ) (v : View E K) (seen : List E) → holds_tag t v ≡ true → holds_tag t (having_seen v seen) ≡ true
  still_holds t v seen h = ap (has_tag t) (append-nil (v.tags ++ v.heard_tags)) ∙ h

  -- a seat changed, and held the tag before
  pub held_set : (vs : List (View E K)) (id j t : ℕ) (v w : View E K) → get_elem? vs id ≡ some v
      → (holds_tag t v ≡ true → holds_tag t w ≡ true) → HasTag vs j t → HasTag (set vs id w) j t
  held_set vs id j t v w at more h = dite (ℕ_discrete j id)
      (λ is. (
        w,
        ap (get_elem? (set vs id w)) is ∙ set_here vs id w (below_length vs id v at),
        more (subst (λ (u : View E K). holds_tag t u ≡ true) (some-injective h.0 v (sym h.1 ∙ ap (get_elem? vs) is ∙ at)) h.2),
      ))
      (λ ne. (h.0, set_else vs id j w ne ∙ h.1, h.2))

  -- another seat changed
  pub held_else : (vs : List (View E K)) (id j t : ℕ) (w : View E K) → j ≢ id → HasTag vs j t → HasTag (set vs id w) j t
  held_else vs id j t w ne h = (h.0, set_else vs id j w ne ∙ h.1, h.2)

  -- the seat that changed holds it
  pub held_here : (vs : List (View E K)) (id t : ℕ) (v w : View E K) → get_elem? vs id ≡ some v → holds_tag t w ≡ true
      → HasTag (set vs id w) id t
  held_here vs id t v w at h = (w, set_here vs id w (below_length vs id v at), h)

  -- a seat more
  pub held_longer : (vs : List (View E K)) (x : View E K) (j t : ℕ) → HasTag vs j t → HasTag (vs ++ x ∷ []) j t
  held_longer vs x j t h = (h.0, at_longer vs x h.0 j h.1, h.2)

  pub held_last : (vs : List (View E K)) (x : View E K) (t : ℕ) → holds_tag t x ≡ true → HasTag (vs ++ x ∷ []) (length vs) t
  held_last vs x t h = (x, at_last vs x, h)

module _ {E K : Type 0} (legal : List E → Type 0) (fits : List E → ℕ → ℕ → Type 0) (who : E → ℕ) (size : ℕ) where
  -- a tag that no seat holds has made no entry
  pub none_of_unheld : (s : State E (View E K)) (r : HasOneHistory legal fits who size s) (t : ℕ)
      → ((id : ℕ) (v : View E K) → get_elem? s.views id ≡ some v → holds_tag t v ≡ false) → entries_of who t r.log ≡ []
  none_of_unheld s r t none = by_owner (r.owner t) refl
    where
      by_owner : (o : ℕ) → r.owner t ≡ o → entries_of who t r.log ≡ []
      by_owner zero e = r.unowned t e
      by_owner (suc id) e = let h = r.held t id e in absurd (true≢false (sym h.2 ∙ none id h.0 h.1))

  owner_is : (s : State E (View E K)) (r : HasOneHistory legal fits who size s) (t id : ℕ) (v : View E K) → get_elem? s.views id ≡ some v
      → holds_tag t v ≡ true → r.owner t ≡ suc id
  owner_is s r t id v at h = ⊎_elim (λ own. ((r.views_fit id v at).owned t own).0) (λ told. ((r.views_fit id v at).given_to t told).0)
      (has_tag-append t v.tags v.heard_tags h)

  -- no two seats hold one tag
  pub one_holder : (s : State E (View E K)) (r : HasOneHistory legal fits who size s) (t i j : ℕ) (u v : View E K)
      → get_elem? s.views i ≡ some u → get_elem? s.views j ≡ some v → holds_tag t u ≡ true → holds_tag t v ≡ true → i ≡ j
  one_holder s r t i j u v at at' h h' = same_id i j (sym (owner_is s r t i u at h) ∙ owner_is s r t j v at' h')

  -- what the seats have seen, where a history is read as `read` says
  pub are_seats : {A B : Type 0} (read : List E → List A) (acts : ℕ → List A → List B)
      → ((xs ys : List E) → IsPrefix xs ys → IsPrefix (read xs) (read ys))
      → ((t : ℕ) (xs ys : List E) → entries_of who t ys ≡ entries_of who t xs → acts t (read ys) ≡ acts t (read xs))
      → ((t : ℕ) (xs : List E) → entries_of who t xs ≡ [] → acts t (read xs) ≡ []) → (s : State E (View E K))
      → (r : HasOneHistory legal fits who size s) → AreSeatsOf read acts (read r.log) s.views
  are_seats read acts longer same none s r = record {
    prefixes = λ id v at. longer v.seen r.log (r.views_fit id v at).begins;
    own = λ id t v at h. same t v.seen r.log ((r.views_fit id v at).owned t h).1;
    apart = λ id id' t v v' at at' h h'. one_holder s r t id id' v v' at at' h h';
    unheld = λ t no. none t r.log (none_of_unheld s r t no);
  }
