-- What a legal history's cells say of who stands.
use Rattle.std.proofs.Common.{◌≡◌, ◌⊎◌, ℕ, suc, ◌+◌, ◌<◌, ◌≤◌, nat_le, eqb, Bool, true, false, true≢false, List, [], ◌∷◌, if◌then◌else◌, Option, Some, None, sym, refl, ap, ◌∙◌, subst, ⊎_elim, inl, inr, arith}
use Rattle.std.specs.List.{list_all}
use mathlib.Core.Logic.{dite}
use native.Mathlib.Decide.{ℕ_discrete, dec_le}
use Rattle.std.proofs.lemmas.Bool.{le-leb, leb-true}
use Rattle.channel_model.specs.declared.acts.Entry.{Entry}
use Rattle.channel_model.specs.declared.standing.Standing.{Standing}
use Rattle.channel_model.specs.declared.standing.Receiver.{Receiver}
use Rattle.channel_model.specs.Channels.{Shape, State, Channel}
use Rattle.channel_model.specs.Histories.{replay, Legal}
use Rattle.word_rules.specs.Cells.{free, closed_by, voided_by, cell_of, blank, Board, standing, awaiting, gather, is_used, end_cell}
use Rattle.channel_model.specs.Laws.{NoneBelow}
use Rattle.cell_words.proofs.GatheredLists.{gather_none, gather_first, all_gather, gather_all}
use Rattle.cell_words.proofs.ListsOfCells.{board, Tied, awaiting_is, standing_is}
use Rattle.cell_words.proofs.OffersRemoved.{offer_place}
use Rattle.cell_words.proofs.CellsGiveLists.{tied, board_state}

-- the state after the history, with its cells
abbrev pub now : List Entry → Board
now log = board (replay log) (λ c p. cell_of log c p)

pub tied_now : (shape : Shape) (log : List Entry) → Legal shape log → Tied (now log)
tied_now shape log l = subst (λ (s : State). Tied (board s (λ c p. cell_of log c p))) (board_state blank log) (tied shape log l)

not_used_end : (v : Option ℕ) (voided : Bool) → is_used (end_cell v voided) ≡ false
not_used_end None voided = refl
not_used_end (Some v) true = refl
not_used_end (Some v) false = refl

-- a cell that is used has a place that was given out
pub used_given : (b : Board) (c p : ℕ) → Tied b → is_used (b.cells c p) ≡ true → p < (b.state.channels c).next
used_given b c p t u = dite (dec_le (suc p) (b.state.channels c).next) (λ le. omega arith)
    (λ no. dite (ℕ_discrete (b.state.channels c).next p)
    (λ (e : (b.state.channels c).next ≡ p). absurd (true≢false (sym u ∙ ap is_used (ap (b.cells c) (sym e) ∙ t.ending c)
    ∙ not_used_end (b.state.channels c).closed (b.state.channels c).voided)))
    (λ ne. absurd (true≢false (sym u ∙ ap is_used (t.unused c p (omega arith))))))

module _ (b : Board) (c : ℕ) (t : Tied b) where
  abbrev ch : Channel
  ch = b.state.channels c

  -- nobody waits at a place below n
  pub none_waits : (n m : ℕ) → NoneBelow n m (b.state.channels c) → (q : ℕ) → q < n → awaiting b.state.waits q (b.cells c q) ≡ None
  none_waits n m h q lt = go (awaiting b.state.waits q (b.cells c q)) refl
    where
      all : list_all (λ (r : Receiver). nat_le n r.place) (gather (λ p. awaiting b.state.waits p (b.cells c p)) (b.state.channels c).next) ≡
          true
      all = subst (λ (l : List Receiver). list_all (λ (r : Receiver). nat_le n r.place) l ≡ true) (t.lines c) h.receivers

      go : (o : Option Receiver) → awaiting b.state.waits q (b.cells c q) ≡ o → awaiting b.state.waits q (b.cells c q) ≡ None
      go None e = e
      go (Some r) e = let least = leb-true n r.place (gather_all (λ (r : Receiver). nat_le n r.place) _ (b.state.channels c).next all q r
          (let g = h.given in omega arith) e) in
          let at : r.place ≡ q = (awaiting_is b.state.waits q (b.cells c q) r e).place in absurd (omega arith)

  -- nobody offers at a place below m
  pub none_offers : (n m : ℕ) → NoneBelow n m (b.state.channels c) → (q : ℕ) → q < m → standing b.state.waits q (b.cells c q) ≡ None
  none_offers n m h q lt = go (standing b.state.waits q (b.cells c q)) refl
    where
      all : list_all (λ (o : Standing). nat_le m o.place) (gather (λ p. standing b.state.waits p (b.cells c p)) (b.state.channels c).next) ≡
          true
      all = subst (λ (l : List Standing). list_all (λ (o : Standing). nat_le m o.place) l ≡ true) (t.queues c) h.offers

      go : (o : Option Standing) → standing b.state.waits q (b.cells c q) ≡ o → standing b.state.waits q (b.cells c q) ≡ None
      go None e = e
      go (Some o) e = let least = leb-true m o.place (gather_all (λ (o : Standing). nat_le m o.place) _ (b.state.channels c).next all q o
          (let g = h.given_offers in omega arith) e) in
          let at : o.place ≡ q = offer_place b.state.waits q (b.cells c q) o (standing_is b.state.waits q (b.cells c q) o e)
          in absurd (omega arith)

  -- one place more
  pub past_receiver : (n m : ℕ) → NoneBelow n m (b.state.channels c) → n < (b.state.channels c).next
      → awaiting b.state.waits n (b.cells c n) ≡ None → NoneBelow (n + 1) m (b.state.channels c)
  past_receiver n m h lt none = record {
    given = omega arith;
    given_offers = h.given_offers;
    receivers = subst (λ (l : List Receiver). list_all (λ (r : Receiver). nat_le (n + 1) r.place) l ≡ true) (sym (t.lines c))
        (all_gather (λ (r : Receiver). nat_le (n + 1) r.place) _ (b.state.channels c).next
        (λ q r lt e. le-leb (n + 1) r.place (beyond q r e)));
    offers = h.offers;
  }
    where
      beyond : (q : ℕ) (r : Receiver) → awaiting b.state.waits q (b.cells c q) ≡ Some r → n + 1 ≤ r.place
      beyond q r e = let at : r.place ≡ q = (awaiting_is b.state.waits q (b.cells c q) r e).place
          in dite (dec_le (n + 1) q) (λ le. omega arith) (λ no. dite (ℕ_discrete q n)
          (λ (is : q ≡ n). let f : Some r ≡ None = sym e ∙ ap (λ (z : ℕ). awaiting b.state.waits z (b.cells c z)) is ∙ none in cc)
          (λ ne. let f : Some r ≡ None = sym e ∙ none_waits n m h q (omega arith) in cc))

  pub past_offer : (n m : ℕ) → NoneBelow n m (b.state.channels c) → m < (b.state.channels c).next
      → standing b.state.waits m (b.cells c m) ≡ None → NoneBelow n (m + 1) (b.state.channels c)
  past_offer n m h lt none = record {
    given = h.given;
    given_offers = omega arith;
    receivers = h.receivers;
    offers = subst (λ (l : List Standing). list_all (λ (o : Standing). nat_le (m + 1) o.place) l ≡ true) (sym (t.queues c))
        (all_gather (λ (o : Standing). nat_le (m + 1) o.place) _ (b.state.channels c).next
        (λ q o lt e. le-leb (m + 1) o.place (beyond q o e)));
  }
    where
      beyond : (q : ℕ) (o : Standing) → standing b.state.waits q (b.cells c q) ≡ Some o → m + 1 ≤ o.place
      beyond q o e = let at : o.place ≡ q = offer_place b.state.waits q (b.cells c q) o (standing_is b.state.waits q (b.cells c q) o e)
          in dite (dec_le (m + 1) q) (λ le. omega arith) (λ no. dite (ℕ_discrete q m)
          (λ (is : q ≡ m). let f : Some o ≡ None = sym e ∙ ap (λ (z : ℕ). standing b.state.waits z (b.cells c z)) is ∙ none in cc)
          (λ ne. let f : Some o ≡ None = sym e ∙ none_offers n m h q (omega arith) in cc))

  -- the first in line, where nobody stands below
  pub first_line : (p m : ℕ) (r : Receiver) → NoneBelow p m (b.state.channels c) → awaiting b.state.waits p (b.cells c p) ≡ Some r
      → p < (b.state.channels c).next
      → (b.state.channels c).receivers ≡ r ∷ gather (λ q. if eqb q p then None else awaiting b.state.waits q (b.cells c q))
      (b.state.channels c).next
  first_line p m r h e lt = t.lines c ∙ gather_first _ (b.state.channels c).next p r lt (none_waits p m h) e

  pub first_queue : (n p : ℕ) (o : Standing) → NoneBelow n p (b.state.channels c) → standing b.state.waits p (b.cells c p) ≡ Some o
      → p < (b.state.channels c).next
      → (b.state.channels c).queue ≡ o ∷ gather (λ q. if eqb q p then None else standing b.state.waits q (b.cells c q))
      (b.state.channels c).next
  first_queue n p o h e lt = t.queues c ∙ gather_first _ (b.state.channels c).next p o lt (none_offers n p h) e

  pub none_line : (n m : ℕ) → NoneBelow n m (b.state.channels c) → (b.state.channels c).next ≤ n → (b.state.channels c).receivers ≡ []
  none_line n m h le = t.lines c ∙ gather_none _ (b.state.channels c).next (λ q lt. none_waits n m h q (omega arith))

  pub none_queue : (n m : ℕ) → NoneBelow n m (b.state.channels c) → (b.state.channels c).next ≤ m → (b.state.channels c).queue ≡ []
  none_queue n m h le = t.queues c ∙ gather_none _ (b.state.channels c).next (λ q lt. none_offers n m h q (omega arith))

-- a free cell that is not beyond the end is the end of an still_open channel
pub free_end : (b : Board) (c p : ℕ) → Tied b → p ≤ (b.state.channels c).next → b.cells c p ≡ free → ((b.state.channels c).next ≡ p)
    × ((b.state.channels c).closed ≡ None)
free_end b c p t le e = (at, still_open (b.state.channels c).closed (b.state.channels c).voided (sym (t.ending c) ∙ ap (b.cells c) at ∙ e))
  where
    at : (b.state.channels c).next ≡ p
    at = dite (ℕ_discrete (b.state.channels c).next p) (λ is. is)
        (λ ne. absurd (true≢false (sym (t.used c p (omega arith)) ∙ ap is_used e)))

    still_open : (v : Option ℕ) (voided : Bool) → end_cell v voided ≡ free → v ≡ None
    still_open None voided e = refl
    still_open (Some v) true e = cc
    still_open (Some v) false e = cc

-- a closed cell tells the close value
pub closed_end : (b : Board) (c p v : ℕ) → Tied b → (b.cells c p ≡ closed_by v) ⊎ (b.cells c p ≡ voided_by v)
    → (b.state.channels c).closed ≡ Some v
closed_end b c p v t e = value (b.state.channels c).closed (b.state.channels c).voided
    (⊎_elim (λ x. inl (sym (t.ending c) ∙ ap (b.cells c) at ∙ x)) (λ x. inr (sym (t.ending c) ∙ ap (b.cells c) at ∙ x)) e)
  where
    not_used : is_used (b.cells c p) ≡ false
    not_used = ⊎_elim (λ x. ap is_used x) (λ x. ap is_used x) e

    not_free : b.cells c p ≡ free → ⊥
    not_free f = ⊎_elim (λ x. let g : closed_by v ≡ free = sym x ∙ f in cc) (λ x. let g : voided_by v ≡ free = sym x ∙ f in cc) e

    at : (b.state.channels c).next ≡ p
    at = dite (ℕ_discrete (b.state.channels c).next p) (λ is. is) (λ ne. dite (dec_le (suc p) (b.state.channels c).next)
        (λ lt. absurd (true≢false (sym (t.used c p (omega arith)) ∙ not_used)))
        (λ no. absurd (not_free (t.unused c p (omega arith)))))

    value : (x : Option ℕ) (voided : Bool) → (end_cell x voided ≡ closed_by v) ⊎ (end_cell x voided ≡ voided_by v) → x ≡ Some v
    value None voided e = absurd (⊎_elim (λ x. let g : free ≡ closed_by v = x in cc) (λ x. let g : free ≡ voided_by v = x in cc) e)
    value (Some y) true e = ⊎_elim (λ x. let g : voided_by y ≡ closed_by v = x in cc) (λ x. let g : voided_by y ≡ voided_by v = x in cc) e
    value (Some y) false e = ⊎_elim (λ x. let g : closed_by y ≡ closed_by v = x in cc) (λ x. let g : closed_by y ≡ voided_by v = x in cc) e

-- its place is not given out
pub end_below : (b : Board) (c p v : ℕ) → Tied b → (b.cells c p ≡ closed_by v) ⊎ (b.cells c p ≡ voided_by v) → (b.state.channels c).next ≤ p
end_below b c p v t e = dite (dec_le (suc p) (b.state.channels c).next)
    (λ lt. absurd (true≢false (sym (t.used c p (omega arith)) ∙ ⊎_elim (λ x. ap is_used x) (λ x. ap is_used x) e))) (λ le. omega arith)

pub end_at_next : (b : Board) (c p v : ℕ) → Tied b → (b.cells c p ≡ closed_by v) ⊎ (b.cells c p ≡ voided_by v)
    → (b.state.channels c).next ≡ p
end_at_next b c p v t e = dite (ℕ_discrete (b.state.channels c).next p) (λ is. is)
    (λ ne. absurd (not_free (t.unused c p (let le = end_below b c p v t e in omega arith))))
  where
    not_free : b.cells c p ≡ free → ⊥
    not_free f = ⊎_elim (λ x. let g : closed_by v ≡ free = sym x ∙ f in cc) (λ x. let g : voided_by v ≡ free = sym x ∙ f in cc) e
