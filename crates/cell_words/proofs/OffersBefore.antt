-- How many offers stand before that of a place, and when it was one too many as it was placed.
use Rattle.std.proofs.Common.{◌≡◌, ℕ, zero, suc, ◌+◌, ◌<◌, ◌≤◌, ◌==◌, nat_le, Bool, true, false, true≢false, not, ◌&&◌, ◌||◌, List, [], ◌∷◌, ◌++◌, length, Option, Some, None, is_some, sym, refl, ap, ◌∙◌, subst, ⊎_elim, inl, inr, arith, eq-eqb, ne_eqb, MatchBool}
use Rattle.std.specs.List.{list_all}
use Rattle.std.proofs.lemmas.Bool.Decides.{nat_tests}
use mathlib.Core.Logic.{dite}
use native.Mathlib.Decide.{ℕ_discrete}
use Rattle.channel_model.specs.declared.acts.Entry.{Entry}
use Rattle.channel_model.specs.declared.acts.Kind.{Kind}
use Rattle.channel_model.specs.declared.standing.Standing.{Standing}
use Rattle.channel_model.specs.Channels.{Shape, kind_at, spurns}
use Rattle.channel_model.specs.Effects.{is_elsewhere}
use Rattle.channel_model.specs.Histories.{replay, Legal}
use Rattle.channel_model.specs.Owing.{owes_spurn_at}
use Rattle.channel_model.specs.Answers.{StandsWithRoom}
use Rattle.channel_model.proofs.Elements.{all_first, all_rest}
use Rattle.channel_model.proofs.Stood.{replay_over, stood_later}
use Rattle.word_rules.specs.Cells.{cell_of, gather, add_some}
use Rattle.cell_words.specs.Seen.{Seen, Sees, at_channel}
use Rattle.cell_words.specs.Answers.{stands, WasTooMany}
use Rattle.cell_words.proofs.ListsOfCells.{standing_is}
use Rattle.cell_words.proofs.OffersRemoved.{offer_place}
use Rattle.cell_words.proofs.OffersSpurned.{none_gathered}
use Rattle.cell_words.proofs.CellsTellFacts.{tied_now}
use Rattle.cell_words.proofs.CountsOfOffers.{gone_more}

-- what a kind spurns, by its other name
pub spurns_as : (k kind : Kind) (much : ℕ → Bool) → k ≡ kind → ((n : ℕ) → spurns k n ≡ much n) → (n : ℕ) → spurns kind n ≡ much n
spurns_as k kind much is h n = sym (ap (λ (z : Kind). spurns z n) is) ∙ h n

-- ---- lists

or_nothing : (x : Bool) → (x || false) ≡ x
or_nothing true = refl
or_nothing false = refl

module _ (kind : Kind) (p : ℕ) where
  owes_none : (n : ℕ) (os : List Standing) → list_all (is_elsewhere p) os ≡ true → owes_spurn_at kind p n os ≡ false
  owes_none n [] h = refl
  owes_none n (o ∷ os) h = by_test (o.place == p) (all_first (is_elsewhere p) o os h)
      (owes_none (n + 1) os (all_rest (is_elsewhere p) o os h))
    where
      by_test : (b : Bool) → not b ≡ true → owes_spurn_at kind p (n + 1) os ≡ false
          → ((b && spurns kind n) || owes_spurn_at kind p (n + 1) os) ≡ false
      by_test true h rest = cc
      by_test false h rest = rest

  owes_last : (n : ℕ) (os : List Standing) (o : Standing) → list_all (is_elsewhere p) os ≡ true → o.place ≡ p
      → owes_spurn_at kind p n (os ++ o ∷ []) ≡ spurns kind (n + length os)
  owes_last n [] o h e = ap (λ (b : Bool). (b && spurns kind n) || false) (eq-eqb o.place p e) ∙ or_nothing (spurns kind n)
      ∙ ap (spurns kind) (omega arith)
  owes_last n (x ∷ os) o h e = by_test (x.place == p) (all_first (is_elsewhere p) x os h)
      (owes_last (n + 1) os o (all_rest (is_elsewhere p) x os h) e ∙ ap (spurns kind) (omega arith))
    where
      by_test : (b : Bool) → not b ≡ true → owes_spurn_at kind p (n + 1) (os ++ o ∷ []) ≡ spurns kind (n + length (x ∷ os))
          → ((b && spurns kind n) || owes_spurn_at kind p (n + 1) (os ++ o ∷ [])) ≡ spurns kind (n + length (x ∷ os))
      by_test true h rest = cc
      by_test false h rest = rest

  owes_more : (n : ℕ) (os : List Standing) (x : Standing) → (x.place ≡ p → ⊥)
      → owes_spurn_at kind p n (os ++ x ∷ []) ≡ owes_spurn_at kind p n os
  owes_more n [] x ne = ap (λ (b : Bool). (b && spurns kind n) || false) (ne_eqb x.place p ne)
  owes_more n (o ∷ os) x ne = ap (λ (b : Bool). ((o.place == p) && spurns kind n) || b) (owes_more (n + 1) os x ne)

  -- by how many are gathered below the place
  module _ (f : ℕ → Option Standing) (at : (q : ℕ) (o : Standing) → f q ≡ Some o → o.place ≡ q) where
    owes_gathered : (n : ℕ) (o : Standing) → p < n → f p ≡ Some o → owes_spurn_at kind p 0 (gather f n) ≡ spurns kind (length (gather f p))
    owes_gathered zero o lt e = absurd (omega arith)
    owes_gathered (suc n) o lt e = dite (ℕ_discrete n p) last (λ ne. more ne (f n) refl (owes_gathered n o (omega arith) e))
      where
        less : n ≡ p → 0 + length (gather f n) ≡ length (gather f p)
        less is = let e : length (gather f n) ≡ length (gather f p) = ap (λ (m : ℕ). length (gather f m)) is in omega arith

        last : n ≡ p → owes_spurn_at kind p 0 (add_some (f n) (gather f n)) ≡ spurns kind (length (gather f p))
        last is = ap (λ (x : Option Standing). owes_spurn_at kind p 0 (add_some x (gather f n))) (ap f is ∙ e)
            ∙ owes_last 0 (gather f n) o (none_gathered f at p n (λ q lt k. absurd (omega arith))) (at p o e)
            ∙ ap (spurns kind) (less is)

        more : (n ≡ p → ⊥) → (x : Option Standing) → f n ≡ x → owes_spurn_at kind p 0 (gather f n) ≡ spurns kind (length (gather f p))
            → owes_spurn_at kind p 0 (add_some x (gather f n)) ≡ spurns kind (length (gather f p))
        more ne None is ih = ih
        more ne (Some x) is ih = owes_more 0 (gather f n) x (λ k. ne (sym (at n x is) ∙ k)) ∙ ih

    owes_nothing : (n : ℕ) → f p ≡ None → owes_spurn_at kind p 0 (gather f n) ≡ false
    owes_nothing n e = owes_none 0 (gather f n) (none_gathered f at p n (λ q lt k. ap f k ∙ e))

-- ---- histories

module _ (shape : Shape) (log : List Entry) (l : Legal shape log) (c mine : ℕ) (lt : mine < (at_channel log c).next) where
  at_place : (q : ℕ) (o : Standing) → stands log c q ≡ Some o → o.place ≡ q
  at_place q o e = offer_place (replay log).waits q (cell_of log c q) o (standing_is (replay log).waits q (cell_of log c q) o e)

  owes_is : (o : Standing) → stands log c mine ≡ Some o → owes_spurn_at (kind_at shape c) mine 0 (at_channel log c).queue ≡
      spurns (kind_at shape c) (length (gather (stands log c) mine))
  owes_is o e = ap (owes_spurn_at (kind_at shape c) mine 0) ((tied_now shape log l).queues c)
      ∙ owes_gathered (kind_at shape c) mine (stands log c) at_place (at_channel log c).next o lt e

  -- none stands there
  pub room_where_none : stands log c mine ≡ None → StandsWithRoom shape c mine (replay log)
  room_where_none e = ap (owes_spurn_at (kind_at shape c) mine 0) ((tied_now shape log l).queues c)
      ∙ owes_nothing (kind_at shape c) mine (stands log c) at_place (at_channel log c).next e

  -- so few stand before it that it fits
  pub room_before : spurns (kind_at shape c) (length (gather (stands log c) mine)) ≡ false → StandsWithRoom shape c mine (replay log)
  room_before h = go (stands log c mine) refl
    where
      go : (x : Option Standing) → stands log c mine ≡ x → StandsWithRoom shape c mine (replay log)
      go None e = room_where_none e
      go (Some o) e = owes_is o e ∙ h

  -- so many stand before it that it did not fit when it was placed
  pub too_many_before : spurns (kind_at shape c) (length (gather (stands log c) mine)) ≡ true → WasTooMany shape c mine log
  too_many_before h = go (stands log c mine) refl
    where
      go : (x : Option Standing) → stands log c mine ≡ x → WasTooMany shape c mine log
      go None e = inl e
      go (Some o) e = inr (replay_over shape log c mine l (owes_is o e ∙ h))

  pub room_few : (most : ℕ) → ((n : ℕ) → spurns (kind_at shape c) n ≡ nat_le most n) → length (gather (stands log c) mine) < most
      → StandsWithRoom shape c mine (replay log)
  room_few most kind less = room_before (kind (length (gather (stands log c) mine)) ∙ not_within (length (gather (stands log c) mine)) less)
    where
      not_within : (n : ℕ) → n < most → nat_le most n ≡ false
      not_within n h = grind (arith, nat_tests)

  too_many_count : (most : ℕ) → ((n : ℕ) → spurns (kind_at shape c) n ≡ nat_le most n) → most ≤ length (gather (stands log c) mine)
      → WasTooMany shape c mine log
  too_many_count most kind many = too_many_before (kind (length (gather (stands log c) mine))
      ∙ within (length (gather (stands log c) mine)) many)
    where
      within : (n : ℕ) → most ≤ n → nat_le most n ≡ true
      within n h = grind (arith, nat_tests)

-- ---- it stays so

module _ (shape : Shape) (c p : ℕ) (xs ys : List Entry) (lx : Legal shape xs) (l : Legal shape (xs ++ ys)) (lt : p < (at_channel xs c).next)
  where
    -- what stands there was one too many
    pub too_many_later : is_some (stands (xs ++ ys) c p) ≡ true → WasTooMany shape c p xs
        → spurns (kind_at shape c) ((replay (xs ++ ys)).stood c p) ≡ true
    too_many_later stays = ⊎_elim
        (λ (gone : stands xs c p ≡ None). absurd (true≢false (sym stays ∙ ap is_some (gone_more shape c p xs ys lx l lt gone))))
        (λ (h : spurns (kind_at shape c) ((replay xs).stood c p) ≡ true). ap (spurns (kind_at shape c)) (stood_later shape xs ys c p l lt)
        ∙ h)

    too_many_more : WasTooMany shape c p xs → WasTooMany shape c p (xs ++ ys)
    too_many_more = ⊎_elim
        (λ (gone : stands xs c p ≡ None). inl (gone_more shape c p xs ys lx l lt gone))
        (λ (h : spurns (kind_at shape c) ((replay xs).stood c p) ≡ true). inr
        (ap (spurns (kind_at shape c)) (stood_later shape xs ys c p l lt) ∙ h))

pub too_many_seen : (shape : Shape) (c p : ℕ) (u v : Seen) → Sees u v → Legal shape u.seen → Legal shape v.seen
    → p < (at_channel u.seen c).next → WasTooMany shape c p u.seen → WasTooMany shape c p v.seen
too_many_seen shape c p u v s lu l lt h = subst (λ (es : List Entry). WasTooMany shape c p es) (sym s.now)
    (too_many_more shape c p u.seen s.others lu (subst (Legal shape) s.now l) lt h)

-- what a walk has counted
pub too_many_told : (shape : Shape) (c mine most : ℕ) (u v : Seen) → Sees u v → Legal shape u.seen → Legal shape v.seen
    → mine < (at_channel u.seen c).next → mine < (at_channel v.seen c).next
    → ((n : ℕ) → spurns (kind_at shape c) n ≡ nat_le most n) → (b : Bool)
    → MatchBool b (most ≤ length (gather (stands u.seen c) mine)) (length (gather (stands v.seen c) mine) < most)
    → MatchBool b (WasTooMany shape c mine v.seen) (StandsWithRoom shape c mine (replay v.seen))
too_many_told shape c mine most u v s lu lv lt lt' kind true h =
    too_many_seen shape c mine u v s lu lv lt (too_many_count shape u.seen lu c mine lt most kind h)
too_many_told shape c mine most u v s lu lv lt lt' kind false h = room_few shape v.seen lv c mine lt' most kind h
