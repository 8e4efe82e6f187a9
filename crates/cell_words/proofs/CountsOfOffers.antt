-- How many offers stand, by one walk from a moment on.
use Rattle.std.proofs.Common.{◌≡◌, ℕ, zero, suc, ◌+◌, ◌<◌, ◌≤◌, true, false, true≢false, not, List, [], ◌∷◌, ◌++◌, length, Option, Some, None, is_some, sym, refl, ap, ◌∙◌, subst, arith, length-append, add-one, eq-eqb}
use Rattle.std.specs.List.{list_all}
use Rattle.channel_model.specs.declared.acts.Entry.{Entry}
use Rattle.channel_model.specs.declared.standing.Standing.{Standing}
use Rattle.channel_model.specs.Channels.{Shape}
use Rattle.channel_model.specs.Histories.{replay, Legal}
use Rattle.word_rules.specs.Cells.{cell_of, standing, gather, add_some}
use Rattle.cell_words.specs.Answers.{stands}
use Rattle.cell_words.proofs.GatheredLists.{gather_all, all_gather}
use Rattle.cell_words.proofs.ListsOfCells.{standing_is}
use Rattle.cell_words.proofs.OffersRemoved.{offer_place}
use Rattle.channel_model.specs.Effects.{is_elsewhere}
use Rattle.channel_model.specs.Laws.{NoOffer}
use Rattle.channel_model.proofs.GoneForGood.{elsewhere, none_lasts}
use Rattle.cell_words.proofs.CellsTellFacts.{tied_now}

-- ---- by cells

module _ (shape : Shape) (log : List Entry) (l : Legal shape log) (c : ℕ) where
  at_place : (q : ℕ) (o : Standing) → standing (replay log).waits q (cell_of log c q) ≡ Some o → o.place ≡ q
  at_place q o e = offer_place (replay log).waits q (cell_of log c q) o (standing_is (replay log).waits q (cell_of log c q) o e)

  pub none_by_cell : (p : ℕ) → p < ((replay log).channels c).next → standing (replay log).waits p (cell_of log c p) ≡ None
      → NoOffer p ((replay log).channels c)
  none_by_cell p lt e = record {
    given = lt;
    none = subst (λ (q : List Standing). list_all (is_elsewhere p) q ≡ true) (sym ((tied_now shape log l).queues c))
        (all_gather (is_elsewhere p) (λ q. standing (replay log).waits q (cell_of log c q)) ((replay log).channels c).next
        (λ q o lt' f. elsewhere o p (λ is. let m : q ≡ p = sym (at_place q o f) ∙ is in let g : Some o ≡ None = sym f
        ∙ ap (λ (z : ℕ). standing (replay log).waits z (cell_of log c z)) m ∙ e in cc)));
  }

  pub cell_by_none : (p : ℕ) → NoOffer p ((replay log).channels c) → standing (replay log).waits p (cell_of log c p) ≡ None
  cell_by_none p h = go (standing (replay log).waits p (cell_of log c p)) refl
    where
      not_other : (o : Standing) → o.place ≡ p → is_elsewhere p o ≡ true → ⊥
      not_other o is t = true≢false (sym (sym (ap not (eq-eqb o.place p is)) ∙ t))

      go : (x : Option Standing) → standing (replay log).waits p (cell_of log c p) ≡ x
          → standing (replay log).waits p (cell_of log c p) ≡ None
      go None e = e
      go (Some o) e =
          absurd (not_other o (at_place p o e) (gather_all (is_elsewhere p) (λ q. standing (replay log).waits q (cell_of log c q))
          ((replay log).channels c).next
          (subst (λ (q : List Standing). list_all (is_elsewhere p) q ≡ true) ((tied_now shape log l).queues c) h.none) p o h.given e))

-- who is not there does not come back
pub gone_more : (shape : Shape) (c p : ℕ) (xs ys : List Entry) → Legal shape xs → Legal shape (xs ++ ys) → p < ((replay xs).channels c).next
    → stands xs c p ≡ None → stands (xs ++ ys) c p ≡ None
gone_more shape c p xs ys lx l lt e = cell_by_none shape (xs ++ ys) l c p (none_lasts shape xs ys c p l (none_by_cell shape xs lx c p lt e))

-- who stands stood before
pub stood_before : (shape : Shape) (c p : ℕ) (xs ys : List Entry) → Legal shape xs → Legal shape (xs ++ ys)
    → p < ((replay xs).channels c).next → is_some (stands (xs ++ ys) c p) ≡ true → is_some (stands xs c p) ≡ true
stood_before shape c p xs ys lx l lt h = go (stands xs c p) refl
  where
    go : (x : Option Standing) → stands xs c p ≡ x → is_some (stands xs c p) ≡ true
    go None e = let f : is_some (stands (xs ++ ys) c p) ≡ false = ap is_some (gone_more shape c p xs ys lx l lt e) in cc
    go (Some o) e = ap is_some e

-- ---- counts

module _ {A : Type 0} where
  pub count_some : (f : ℕ → Option A) (n k : ℕ) → k ≤ length (gather f n) → is_some (f n) ≡ true → k + 1 ≤ length (gather f (n + 1))
  count_some f n k h e = subst (λ (m : ℕ). k + 1 ≤ length (gather f m)) (sym (add-one n)) (go (f n) e)
    where
      go : (o : Option A) → is_some o ≡ true → k + 1 ≤ length (add_some o (gather f n))
      go None e = cc
      go (Some x) e = let m = length-append (gather f n) (x ∷ []) in omega arith

  pub count_none : (f : ℕ → Option A) (n : ℕ) → f n ≡ None → length (gather f (n + 1)) ≡ length (gather f n)
  count_none f n e = ap (λ (m : ℕ). length (gather f m)) (add-one n) ∙ ap (λ (o : Option A). length (add_some o (gather f n))) e

  count_any : (f : ℕ → Option A) (n : ℕ) → length (gather f (n + 1)) ≤ length (gather f n) + 1
  count_any f n = subst (λ (m : ℕ). length (gather f m) ≤ length (gather f n) + 1) (sym (add-one n)) (go (f n))
    where
      go : (o : Option A) → length (add_some o (gather f n)) ≤ length (gather f n) + 1
      go None = omega arith
      go (Some x) = let m = length-append (gather f n) (x ∷ []) in omega arith

  pub count_next : (f : ℕ → Option A) (n k : ℕ) → length (gather f n) ≤ k → length (gather f (n + 1)) ≤ k + 1
  count_next f n k h = let m = count_any f n in omega arith

  -- no more than there are places
  pub count_within : (f : ℕ → Option A) (n k d m : ℕ) → m ≡ n + d → length (gather f n) ≤ k → length (gather f m) ≤ k + d
  count_within f n k zero m e h = let is : n ≡ m = omega arith in subst (λ (z : ℕ). length (gather f z) ≤ k + 0) is (omega arith)
  count_within f n k (suc d) m e h =
      let ih = count_within f n k d (n + d) refl h in
      let more = count_any f (n + d) in
      let is : (n + d) + 1 ≡ m = omega arith in
      subst (λ (z : ℕ). length (gather f z) ≤ k + suc d) is (omega arith)

  -- fewer stand where some are gone
  pub count_less : (f g : ℕ → Option A) (n : ℕ) → ((q : ℕ) → q < n → f q ≡ None → g q ≡ None) → length (gather g n) ≤ length (gather f n)
  count_less f g zero h = omega arith
  count_less f g (suc n) h = go (count_less f g n (λ q lt e. h q (omega arith) e)) (f n) (g n) refl refl
    where
      go : length (gather g n) ≤ length (gather f n) → (x y : Option A) → f n ≡ x → g n ≡ y
          → length (add_some y (gather g n)) ≤ length (add_some x (gather f n))
      go ih None None e d = ih
      go ih None (Some y) e d = let no : Some y ≡ None = sym d ∙ h n (omega arith) e in cc
      go ih (Some x) None e d = let m = length-append (gather f n) (x ∷ []) in omega arith
      go ih (Some x) (Some y) e d = let m = length-append (gather f n) (x ∷ []) in let m' = length-append (gather g n) (y ∷ [])
          in omega arith

  at_least_more : (f : ℕ → Option A) (n : ℕ) → length (gather f n) ≤ length (gather f (suc n))
  at_least_more f n = go (f n)
    where
      go : (o : Option A) → length (gather f n) ≤ length (add_some o (gather f n))
      go None = omega arith
      go (Some x) = let m = length-append (gather f n) (x ∷ []) in omega arith

  -- more places, more that stand
  pub count_up : (f : ℕ → Option A) (n d m : ℕ) → m ≡ n + d → length (gather f n) ≤ length (gather f m)
  count_up f n zero m e = let is : n ≡ m = omega arith in subst (λ (z : ℕ). length (gather f n) ≤ length (gather f z)) is (omega arith)
  count_up f n (suc d) m e = let ih = count_up f n d (n + d) refl in let more = at_least_more f (n + d)
      in let is : suc (n + d) ≡ m = omega arith in subst (λ (z : ℕ). length (gather f n) ≤ length (gather f z)) is (omega arith)
