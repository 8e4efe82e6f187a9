-- What a word that was found says of who stands.
use Rattle.std.proofs.Common.{◌≡◌, ℕ, ◌+◌, ◌%◌, ◌<◌, ◌≤◌, nat_le, Bool, true, false, List, [], ◌∷◌, ◌++◌, if◌then◌else◌, Option, Some, None, sym, refl, ap, ◌∙◌, subst, inl, inr, arith, append_assoc}
use Rattle.std.specs.List.{list_all}
use Rattle.std.proofs.lemmas.Bool.Decides.{nat_tests}
use Rattle.co_base.proofs.Orders.{order_then}
use mathlib.Core.Logic.{dite}
use native.Mathlib.Decide.{ℕ_discrete}
use Rattle.worded.specs.Views.{has_tag}
use Rattle.worded.specs.Histories.{entries_of}
use Rattle.worded.proofs.TagsAndPrefixes.{entries_of-append}
use Rattle.co_base.specs.declared.names.WaitId.{WaitId}
use Rattle.channel_model.specs.declared.acts.Entry.{Entry}
use Rattle.channel_model.specs.declared.acts.Settled.{Settled}
use Rattle.channel_model.specs.declared.acts.Why.TheVariants.{Cancelled, Revoked}
use Rattle.channel_model.specs.declared.standing.Receiver.{Receiver}
use Rattle.channel_model.specs.declared.standing.Standing.{Standing}
use Rattle.channel_model.specs.declared.standing.Resolution.{Resolution}
use Rattle.channel_model.specs.declared.standing.Resolution.TheVariants as resolved
use Rattle.channel_model.specs.declared.floor.WaitState.{WaitState}
use Rattle.channel_model.specs.Channels.{Shape, Channel, Wait, same_wait, places_at}
use Rattle.channel_model.specs.Histories.{replay, Legal}
use Rattle.channel_model.specs.Laws.{NoneBelow}
use Rattle.channel_model.specs.Answers.{IsResolvedWait, IsOwnWait, state_of_parts, state_of_wait, IsSpentForOffers, IsSpentForReceives}
use Rattle.channel_model.proofs.Elements.{all_more}
use Rattle.channel_model.proofs.GoneForGood.{below_lasts}
use Rattle.channel_model.proofs.Sound.{sound, EndsResolved}
use Rattle.channel_model.proofs.Waits.{same_wait-eq, same_wait-refl}
use Rattle.word_rules.specs.declared.layout.Layout.{Layout}
use Rattle.cell_words.specs.declared.hub.Hub.{Hub}
use Rattle.cell_words.specs.declared.pass.Pass.{Pass}
use Rattle.word_rules.specs.declared.cell_word.CellState.{CellState}
use Rattle.word_rules.specs.declared.cell_word.CellState.TheVariants as cell
use Rattle.word_rules.specs.declared.cell_word.CellWord.{CellWord}
use Rattle.word_rules.specs.declared.wait_word.WaitWord.{WaitWord}
use Rattle.cell_words.specs.declared.found.Holder.{Holder}
use Rattle.cell_words.specs.declared.found.Holder.TheVariants as holder
use Rattle.word_rules.specs.Codes.{packed_cell}
use Rattle.word_rules.specs.Cells.{Cell, free, receiver, offer, buffered, emptied, closed_by, voided_by, spot, cell_of, standing, awaiting, is_used}
use Rattle.word_rules.specs.Words.{number, PartyFits, party_word, word_of_cell, cell_code, CellFits, how_word, parts_word, word_of_wait, maker}
use Rattle.cell_words.specs.Seen.{Seen, at_channel, Sees, Makes}
use Rattle.cell_words.specs.Hubs.{shape_of, IsOf, seen_by}
use Rattle.cell_words.specs.Looks.{holder_of, held_word, waiter_of, is_used_state, found_by_sender, found_by_receiver, end_found, state_found, owner_told}
use Rattle.cell_words.specs.Answers.{IsCellWord, IsWaitWord, IsHolder, IsHeld, OfferAt, ReceiveAt, EndAt, CloseAt, OwnerAnswer}
use Rattle.cell_words.proofs.CellsLast.{given_more}
use Rattle.cell_words.proofs.ListsOfCells.{IsNamed, CellNamed}
use Rattle.cell_words.proofs.MayExchange.{own_more}
use Rattle.cell_words.proofs.WaitsAtHome.{HomeOf}
use Rattle.cell_words.proofs.OnTheFirstPart.{key_on}
use Rattle.cell_words.proofs.CellsTellFacts.{now, tied_now, used_given, free_end, closed_end, none_line, none_queue, past_receiver, past_offer, end_below, end_at_next}

-- what a pass has seen is legal
pub hub_legal : (hub : Hub) (pass : Pass) → IsOf hub pass → Legal (shape_of hub) (seen_by pass).seen
hub_legal hub pass of = subst (λ (k : Layout). Legal k.kinds (seen_by pass).seen) (key_on pass.seat.me.0 hub.table.value.shared.key of.1)
    pass.legal

-- ---- what was seen grows

pub sees_then : (u v w : Seen) → Sees u v → Sees v w → Sees u w
sees_then u v w a b = record {
  others = a.others ++ b.others;
  now = b.now ∙ ap (λ (l : List Entry). l ++ b.others) a.now ∙ append_assoc u.seen a.others b.others;
  apart = λ t h. entries_of-append maker t a.others b.others ∙ ap (λ (l : List Entry). l ++ entries_of maker t b.others) (a.apart t h)
      ∙ b.apart t (ap (has_tag t) a.tags ∙ h);
  tags = b.tags ∙ a.tags;
  giving = b.giving ∙ a.giving;
  order = order_then u.order v.order w.order a.order b.order;
}

unfoldable pub sees_makes : (u v w : Seen) (e : Entry) → Sees u v → Makes v e w → Makes u e w
sees_makes u v w e a b = record {
  others = a.others ++ b.others;
  now = b.now ∙ ap (λ (l : List Entry). l ++ e ∷ []) (ap (λ (l : List Entry). l ++ b.others) a.now ∙ append_assoc u.seen a.others b.others);
  apart = λ t h. entries_of-append maker t a.others b.others ∙ ap (λ (l : List Entry). l ++ entries_of maker t b.others) (a.apart t h)
      ∙ b.apart t (ap (has_tag t) a.tags ∙ h);
  tags = b.tags ∙ a.tags;
  giving = b.giving ∙ a.giving;
  order = order_then u.order v.order w.order a.order b.order;
}

-- ---- who waits at a cell

pub holder_is : (shape : Shape) (c p v who k : ℕ) (state : CellState) (w : WaitId) → PartyFits shape who w k
    → IsHolder shape c p (holder_of (party_word shape c p state v who w k)) who w
holder_is shape c p v who k state w h = by_test (same_wait w (spot c p)) refl
  where
    by_test : (b : Bool) → same_wait w (spot c p) ≡ b → IsHolder shape c p
        (if b then holder.Own ((if b then who else number shape w.channel w.place) % 65536) else holder.At
        (if b then who else number shape w.channel w.place)) who w
    by_test true e = (same_wait-eq w (spot c p) e, let t = h.tag in omega arith)
    by_test false e = (refl, e)

pub named_own : (who k : ℕ) (y : Option Wait) → IsNamed who k y → IsOwnWait who y
named_own who k None h = h
named_own who k (Some x) h = h.0

module _ (shape : Shape) (log : List Entry) (l : Legal shape log) (c p who k : ℕ) (w : WaitId) (fits : PartyFits shape who w k) where
  unfoldable pub held_receiver : cell_of log c p ≡ receiver who w k
      → IsHeld shape c p (waiter_of (party_word shape c p cell.Receiver 0 who w k)) log
  held_receiver e = record {
    who = who;
    wait = w;
    holder = holder_is shape c p 0 who k cell.Receiver w fits;
    fits = fits;
    owner =
        named_own who k ((replay log).waits w) (subst (CellNamed (replay log).waits) e ((tied_now shape log l).named c p));
  }

  unfoldable pub held_offer : (v : ℕ) → cell_of log c p ≡ offer v who w k
      → IsHeld shape c p (waiter_of (party_word shape c p cell.Offer v who w k)) log
  held_offer v e = record {
    who = who;
    wait = w;
    holder = holder_is shape c p v who k cell.Offer w fits;
    fits = fits;
    owner =
        named_own who k ((replay log).waits w) (subst (CellNamed (replay log).waits) e ((tied_now shape log l).named c p));
  }

-- the cell where a wait began tells its coroutine, until it is emptied
module _ (shape : Shape) (log : List Entry) (w : WaitId) (owner : ℕ) where
  here : (x : Cell) (state : CellState) (v who k : ℕ) (u : WaitId) → PartyFits shape who u k → (who ≡ owner) × (u ≡ w)
      → OwnerAnswer owner w log (owner_told (holder_of (party_word shape w.channel w.place state v who u k)))
  here x state v who k u fits h = subst (λ (b : Bool). OwnerAnswer owner w log
      (owner_told (if b then holder.Own ((if b then who else number shape u.channel u.place) % 65536) else holder.At
      (if b then who else number shape u.channel u.place))))
      (sym (ap (λ (z : WaitId). same_wait z w) h.1 ∙ same_wait-refl w)) (let t = fits.tag in let e = h.0 in omega arith)

  pub home_owner : (x : Cell) (y : Option Wait) → (replay log).waits w ≡ y → CellFits shape x → HomeOf w y x → IsOwnWait owner y
      → OwnerAnswer owner w log (owner_told (holder_of (word_of_cell shape w.channel w.place x)))
  home_owner x None e fits h own = absurd own
  home_owner free (Some y) e fits h own = absurd h
  home_owner (receiver who u k) (Some y) e fits h own = here (receiver who u k) cell.Receiver 0 who k u fits (h.0 ∙ own, h.1)
  home_owner (offer v who u k) (Some y) e fits h own = here (offer v who u k) cell.Offer v who k u fits.0 (h.0 ∙ own, h.1)
  home_owner (buffered v) (Some y) e fits h own = absurd h
  home_owner (emptied v) (Some y) e fits h own = subst IsResolvedWait (sym e) h
  home_owner (closed_by v) (Some y) e fits h own = absurd h
  home_owner (voided_by v) (Some y) e fits h own = absurd h

-- ---- at a place

module _ (shape : Shape) (who c p : ℕ) (old new : Seen) (sees : Sees old new) (l : Legal shape new.seen) where
  offer_by_cell : (value : ℕ) → NoneBelow p 0 (at_channel new.seen c) → (x : Cell) → cell_of new.seen c p ≡ x → CellFits shape x
      → ((word_of_cell shape c p x).state ≡ cell.Free → ⊥)
      → OfferAt shape who c p value old new (found_by_sender (word_of_cell shape c p x) (word_of_cell shape c p x).state)
  unfolding held_receiver
  offer_by_cell value low free e f ne = absurd (ne refl)
  offer_by_cell value low (receiver t w k) e f ne = (sees, low, record { held = held_receiver shape new.seen l c p t k w f e; cell = e })
  offer_by_cell value low (offer v t w k) e f ne = (
    sees,
    past_receiver (now new.seen) c (tied_now shape new.seen l) p 0 low
        (used_given (now new.seen) c p (tied_now shape new.seen l) (ap is_used e)) (ap (awaiting (replay new.seen).waits p) e),
  )
  offer_by_cell value low (buffered v) e f ne = (
    sees,
    past_receiver (now new.seen) c (tied_now shape new.seen l) p 0 low
        (used_given (now new.seen) c p (tied_now shape new.seen l) (ap is_used e)) (ap (awaiting (replay new.seen).waits p) e),
  )
  offer_by_cell value low (emptied v) e f ne = (
    sees,
    past_receiver (now new.seen) c (tied_now shape new.seen l) p 0 low
        (used_given (now new.seen) c p (tied_now shape new.seen l) (ap is_used e)) (ap (awaiting (replay new.seen).waits p) e),
  )
  offer_by_cell value low (closed_by v) e f ne = (sees, closed_end (now new.seen) c p v (tied_now shape new.seen l) (inl e))
  offer_by_cell value low (voided_by v) e f ne = (sees, closed_end (now new.seen) c p v (tied_now shape new.seen l) (inr e))

  -- one who offers
  pub offer_found : (value : ℕ) → NoneBelow p 0 (at_channel new.seen c) → (word : CellWord) → IsCellWord shape c p new.seen word
      → (word.state ≡ cell.Free → ⊥) → OfferAt shape who c p value old new (found_by_sender word word.state)
  offer_found value low word is = subst (λ (z : CellWord). (z.state ≡ cell.Free → ⊥)
      → OfferAt shape who c p value old new (found_by_sender z z.state)) (sym is.0)
      (offer_by_cell value low (cell_of new.seen c p) refl is.1)

  receive_by_cell : NoneBelow 0 p (at_channel new.seen c) → (x : Cell) → cell_of new.seen c p ≡ x → CellFits shape x
      → ((word_of_cell shape c p x).state ≡ cell.Free → ⊥)
      → ReceiveAt shape who c p old new (found_by_receiver (word_of_cell shape c p x) (word_of_cell shape c p x).state)
  unfolding held_offer
  receive_by_cell low free e f ne = absurd (ne refl)
  receive_by_cell low (receiver t w k) e f ne = (
    sees,
    past_offer (now new.seen) c (tied_now shape new.seen l) 0 p low
        (used_given (now new.seen) c p (tied_now shape new.seen l) (ap is_used e)) (ap (standing (replay new.seen).waits p) e),
  )
  receive_by_cell low (offer v t w k) e f ne = (sees, low, record { held = held_offer shape new.seen l c p t k w f.0 v e; cell = e })
  receive_by_cell low (buffered v) e f ne = (sees, low, e)
  receive_by_cell low (emptied v) e f ne = (
    sees,
    past_offer (now new.seen) c (tied_now shape new.seen l) 0 p low
        (used_given (now new.seen) c p (tied_now shape new.seen l) (ap is_used e)) (ap (standing (replay new.seen).waits p) e),
  )
  receive_by_cell low (closed_by v) e f ne = (
    sees,
    closed_end (now new.seen) c p v (tied_now shape new.seen l) (inl e),
    none_queue (now new.seen) c (tied_now shape new.seen l) 0 p low (end_below (now new.seen) c p v (tied_now shape new.seen l) (inl e)),
  )
  receive_by_cell low (voided_by v) e f ne = (
    sees,
    closed_end (now new.seen) c p v (tied_now shape new.seen l) (inr e),
    none_queue (now new.seen) c (tied_now shape new.seen l) 0 p low (end_below (now new.seen) c p v (tied_now shape new.seen l) (inr e)),
  )

  -- one who receives
  pub receive_found : NoneBelow 0 p (at_channel new.seen c) → (word : CellWord) → IsCellWord shape c p new.seen word
      → (word.state ≡ cell.Free → ⊥) → ReceiveAt shape who c p old new (found_by_receiver word word.state)
  receive_found low word is = subst (λ (z : CellWord). (z.state ≡ cell.Free → ⊥)
      → ReceiveAt shape who c p old new (found_by_receiver z z.state)) (sym is.0) (receive_by_cell low (cell_of new.seen c p) refl is.1)

-- a cell with the state Free is free
pub state_free : (shape : Shape) (c p : ℕ) (word : CellWord) (x : Cell) → word ≡ word_of_cell shape c p x → word.state ≡ cell.Free
    → x ≡ free
state_free shape c p word free e f = refl
state_free shape c p word (receiver who w k) e f = let g : cell.Receiver ≡ cell.Free = sym (ap (λ (z : CellWord). z.state) e) ∙ f in cc
state_free shape c p word (offer v who w k) e f = let g : cell.Offer ≡ cell.Free = sym (ap (λ (z : CellWord). z.state) e) ∙ f in cc
state_free shape c p word (buffered v) e f = let g : cell.Buffered ≡ cell.Free = sym (ap (λ (z : CellWord). z.state) e) ∙ f in cc
state_free shape c p word (emptied v) e f = let g : cell.Emptied ≡ cell.Free = sym (ap (λ (z : CellWord). z.state) e) ∙ f in cc
state_free shape c p word (closed_by v) e f = let g : cell.Closed ≡ cell.Free = sym (ap (λ (z : CellWord). z.state) e) ∙ f in cc
state_free shape c p word (voided_by v) e f = let g : cell.Voided ≡ cell.Free = sym (ap (λ (z : CellWord). z.state) e) ∙ f in cc

pub used_not : (s : CellState) → is_used_state s ≡ true → s ≡ cell.Free → ⊥
used_not s h e = let f : is_used_state s ≡ false = ap is_used_state e in cc

pub unused_free : (s : CellState) → is_used_state s ≡ false → s ≡ cell.Free
unused_free cell.Free h = refl
unused_free cell.Receiver h = cc
unused_free other h = cc

-- another word than that of a free cell
pub number_not : (shape : Shape) (c p : ℕ) (log : List Entry) (word : CellWord) (old : ℕ) → IsCellWord shape c p log word → old ≡ 0
    → (packed_cell word ≡ old → ⊥) → word.state ≡ cell.Free → ⊥
number_not shape c p log word old is zero ne s = ne (ap packed_cell is.0
    ∙ ap (cell_code shape c p) (state_free shape c p word (cell_of log c p) is.0 s) ∙ sym zero)

-- a cell that holds its own wait
pub own_word : (shape : Shape) (c p v who : ℕ) (state : CellState)
    → record { state = state; clause = 0; own_wait = true; holder = who; value = v } ≡ party_word shape c p state v who (spot c p) 0
own_word shape c p v who state = ap (λ (b : Bool). own b) (sym (same_wait-refl (spot c p)))
  where
    own : Bool → CellWord
    own b = record { state = state; clause = 0; own_wait = b; holder = if b then who else number shape c p; value = v }

-- the word of an offer's cell, by who waits there
pub offer_word_is : (shape : Shape) (c p who k v : ℕ) (w : WaitId) (h : Holder) → IsHolder shape c p h who w
    → held_word h k v ≡ party_word shape c p cell.Offer v who w k
offer_word_is shape c p who k v w (holder.Own t) h =
    ap (λ (z : ℕ). held_word (holder.Own z) k v) (sym h.1)
    ∙ ap (λ (b : Bool). own b) (sym (ap (λ (z : WaitId). same_wait z (spot c p)) h.0 ∙ same_wait-refl (spot c p)))
  where
    own : Bool → CellWord
    own b = record { state = cell.Offer; clause = k; own_wait = b; holder = if b then who else number shape w.channel w.place; value = v }
offer_word_is shape c p who k v w (holder.At n) h = ap (λ (z : ℕ). held_word (holder.At z) k v) (sym h.0)
    ∙ ap (λ (b : Bool). other b) (sym h.1)
  where
    other : Bool → CellWord
    other b = record { state = cell.Offer; clause = k; own_wait = b; holder = if b then who else number shape w.channel w.place; value = v }

-- a free end of all places
module _ (shape : Shape) (c p : ℕ) (log : List Entry) (l : Legal shape log) (word : CellWord) (is : IsCellWord shape c p log word)
    (none : word.state ≡ cell.Free) (all : p ≡ places_at shape c) where
  pub offer_spent : NoneBelow p 0 (at_channel log c) → IsSpentForOffers shape c (replay log)
  offer_spent low = let at = free_end (now log) c p (tied_now shape log l) low.given (state_free shape c p word (cell_of log c p) is.0 none)
      in
      record { spent = at.0 ∙ all; not_closed = at.1; nobody = none_line (now log) c (tied_now shape log l) p 0 low (omega (arith, at.0)) }

  pub receive_spent : NoneBelow 0 p (at_channel log c) → IsSpentForReceives shape c (replay log)
  receive_spent low = let at = free_end (now log) c p (tied_now shape log l) low.given_offers
      (state_free shape c p word (cell_of log c p) is.0 none) in
      record {
        spent = at.0 ∙ all;
        not_closed = at.1;
        nothing =
            none_queue (now log) c (tied_now shape log l) 0 p low (omega (arith, at.0));
      }

-- ---- the end of a channel

module _ (shape : Shape) (c p : ℕ) (log : List Entry) (l : Legal shape log) (given : p ≤ (at_channel log c).next) where
  end_used : (x : Cell) → cell_of log c p ≡ x → is_used x ≡ true → p + 1 ≤ (at_channel log c).next
  end_used x e u = let lt = used_given (now log) c p (tied_now shape log l) (ap is_used e ∙ u) in omega arith

  end_by_cell : (x : Cell) → cell_of log c p ≡ x → EndAt c p (end_found (word_of_cell shape c p x) (word_of_cell shape c p x).state) log
  end_by_cell free e = free_end (now log) c p (tied_now shape log l) given e
  end_by_cell (receiver t w k) e = end_used (receiver t w k) e refl
  end_by_cell (offer v t w k) e = end_used (offer v t w k) e refl
  end_by_cell (buffered v) e = end_used (buffered v) e refl
  end_by_cell (emptied v) e = end_used (emptied v) e refl
  end_by_cell (closed_by v) e = (
    end_at_next (now log) c p v (tied_now shape log l) (inl e),
    closed_end (now log) c p v (tied_now shape log l) (inl e),
  )
  end_by_cell (voided_by v) e = (
    end_at_next (now log) c p v (tied_now shape log l) (inr e),
    closed_end (now log) c p v (tied_now shape log l) (inr e),
  )

  -- one who looks for it
  pub end_is : (word : CellWord) → IsCellWord shape c p log word → EndAt c p (end_found word word.state) log
  end_is word is = subst (λ (z : CellWord). EndAt c p (end_found z z.state) log) (sym is.0) (end_by_cell (cell_of log c p) refl)

-- one who closes, where the cell is no more free
module _ (shape : Shape) (who c p value : ℕ) (old new : Seen) (sees : Sees old new) (l : Legal shape new.seen)
    (given : p ≤ (at_channel new.seen c).next) where
  close_by_cell : (x : Cell) → cell_of new.seen c p ≡ x → ((word_of_cell shape c p x).state ≡ cell.Free → ⊥)
      → CloseAt who c p value old new (end_found (word_of_cell shape c p x) (word_of_cell shape c p x).state)
  close_by_cell free e ne = absurd (ne refl)
  close_by_cell (receiver t w k) e ne = (sees, end_used shape c p new.seen l given (receiver t w k) e refl)
  close_by_cell (offer v t w k) e ne = (sees, end_used shape c p new.seen l given (offer v t w k) e refl)
  close_by_cell (buffered v) e ne = (sees, end_used shape c p new.seen l given (buffered v) e refl)
  close_by_cell (emptied v) e ne = (sees, end_used shape c p new.seen l given (emptied v) e refl)
  close_by_cell (closed_by v) e ne = (sees, closed_end (now new.seen) c p v (tied_now shape new.seen l) (inl e))
  close_by_cell (voided_by v) e ne = (sees, closed_end (now new.seen) c p v (tied_now shape new.seen l) (inr e))

  pub close_found : (word : CellWord) → IsCellWord shape c p new.seen word → (word.state ≡ cell.Free → ⊥)
      → CloseAt who c p value old new (end_found word word.state)
  close_found word is = subst (λ (z : CellWord). (z.state ≡ cell.Free → ⊥)
      → CloseAt who c p value old new (end_found z z.state)) (sym is.0) (close_by_cell (cell_of new.seen c p) refl)

-- ---- between two looks

pub below_seen : (shape : Shape) (n m c : ℕ) (v w : Seen) → Sees v w → Legal shape w.seen → NoneBelow n m (at_channel v.seen c)
    → NoneBelow n m (at_channel w.seen c)
below_seen shape n m c v w s l h = subst (λ (es : List Entry). NoneBelow n m (at_channel es c)) (sym s.now)
    (below_lasts shape v.seen s.others c n m (subst (Legal shape) s.now l) h)

-- what a word says to one who offers, and to one who receives: one that is used, one found in place of a free one, and a free one behind
-- all places
module _ (hub : Hub) (pass : Pass) (of : IsOf hub pass) (c p : ℕ) (v : Seen) (s : Sees v (seen_by pass)) (word : CellWord)
    (is : IsCellWord (shape_of hub) c p (seen_by pass).seen word) where
  pub used_offer : NoneBelow p 0 (at_channel v.seen c) → is_used_state word.state ≡ true → (who value : ℕ)
      → OfferAt (shape_of hub) who c p value v (seen_by pass) (found_by_sender word word.state)
  used_offer low used who value = let l = hub_legal hub pass of in
      offer_found (shape_of hub) who c p v (seen_by pass) s l value (below_seen (shape_of hub) p 0 c v (seen_by pass) s l low) word is
      (used_not word.state used)

  pub missed_offer : NoneBelow p 0 (at_channel v.seen c) → (old : ℕ) → old ≡ 0 → (packed_cell word ≡ old → ⊥) → (who value : ℕ)
      → OfferAt (shape_of hub) who c p value v (seen_by pass) (found_by_sender word word.state)
  missed_offer low old zero ne who value = let l = hub_legal hub pass of in
      offer_found (shape_of hub) who c p v (seen_by pass) s l value (below_seen (shape_of hub) p 0 c v (seen_by pass) s l low) word is
      (number_not (shape_of hub) c p (seen_by pass).seen word old is zero ne)

  pub spent_offer : NoneBelow p 0 (at_channel v.seen c) → is_used_state word.state ≡ false → p ≡ places_at (shape_of hub) c
      → Sees v (seen_by pass) × IsSpentForOffers (shape_of hub) c (replay (seen_by pass).seen)
  spent_offer low unused all = let l = hub_legal hub pass of in (
    s,
    offer_spent (shape_of hub) c p (seen_by pass).seen l word is (unused_free word.state unused) all
        (below_seen (shape_of hub) p 0 c v (seen_by pass) s l low),
  )

  pub used_receive : NoneBelow 0 p (at_channel v.seen c) → is_used_state word.state ≡ true → (who : ℕ)
      → ReceiveAt (shape_of hub) who c p v (seen_by pass) (found_by_receiver word word.state)
  used_receive low used who = let l = hub_legal hub pass of in
      receive_found (shape_of hub) who c p v (seen_by pass) s l (below_seen (shape_of hub) 0 p c v (seen_by pass) s l low) word is
      (used_not word.state used)

  pub missed_receive : NoneBelow 0 p (at_channel v.seen c) → (old : ℕ) → old ≡ 0 → (packed_cell word ≡ old → ⊥) → (who : ℕ)
      → ReceiveAt (shape_of hub) who c p v (seen_by pass) (found_by_receiver word word.state)
  missed_receive low old zero ne who = let l = hub_legal hub pass of in
      receive_found (shape_of hub) who c p v (seen_by pass) s l (below_seen (shape_of hub) 0 p c v (seen_by pass) s l low) word is
      (number_not (shape_of hub) c p (seen_by pass).seen word old is zero ne)

  pub spent_receive : NoneBelow 0 p (at_channel v.seen c) → is_used_state word.state ≡ false → p ≡ places_at (shape_of hub) c
      → Sees v (seen_by pass) × IsSpentForReceives (shape_of hub) c (replay (seen_by pass).seen)
  spent_receive low unused all = let l = hub_legal hub pass of in (
    s,
    receive_spent (shape_of hub) c p (seen_by pass).seen l word is (unused_free word.state unused) all
        (below_seen (shape_of hub) 0 p c v (seen_by pass) s l low),
  )

pub less_places : (shape : Shape) (c p n : ℕ) → p ≤ places_at shape c → n ≡ places_at shape c → (p ≡ n → ⊥) → p < places_at shape c
less_places shape c p n le is ne = dite (ℕ_discrete p n) (λ e. absurd (ne e)) (λ other. omega arith)

-- nobody below place 0
all_true : {X : Type 0} (t : X → Bool) → ((x : X) → t x ≡ true) → (xs : List X) → list_all t xs ≡ true
all_true t h [] = refl
all_true t h (x ∷ xs) = all_more t x xs (h x) (all_true t h xs)

zero_le : (n : ℕ) → nat_le 0 n ≡ true
zero_le n = grind (arith, nat_tests)

pub none_below_start : (ch : Channel) → NoneBelow 0 0 ch
none_below_start ch = record {
  given = omega arith;
  given_offers = omega arith;
  receivers = all_true (λ (r : Receiver). nat_le 0 r.place) (λ r. zero_le r.place) ch.receivers;
  offers = all_true (λ (o : Standing). nat_le 0 o.place) (λ o. zero_le o.place) ch.queue;
}

pub given_seen : (shape : Shape) (p c : ℕ) (v w : Seen) → Sees v w → Legal shape w.seen → p ≤ (at_channel v.seen c).next
    → p ≤ (at_channel w.seen c).next
given_seen shape p c v w s l h = subst (λ (es : List Entry). p ≤ (at_channel es c).next) (sym s.now)
    (given_more shape p c v.seen s.others (subst (Legal shape) s.now l) h)

pub own_seen : (shape : Shape) (who : ℕ) (u : WaitId) (v w : Seen) → has_tag who v.tags ≡ true → Sees v w → Legal shape w.seen
    → IsOwnWait who ((replay v.seen).waits u) → IsOwnWait who ((replay w.seen).waits u)
own_seen shape who u v w tag s l h = subst (λ (es : List Entry). IsOwnWait who ((replay es).waits u)) (sym s.now)
    (own_more shape who u v.seen s.others (subst (Legal shape) s.now l) (s.apart who tag) h)

-- ---- how far a wait is

how_state : (how : Resolution) → state_found (how_word how) ≡ state_of_parts (Some how) None
how_state (resolved.Withdrawn Cancelled) = refl
how_state (resolved.Withdrawn Revoked) = refl
how_state other = refl

parts_state : (how : Option Resolution) (outcome : Option Settled) → (how ≡ None → outcome ≡ None)
    → state_of_parts how outcome ≡ state_found (parts_word how outcome)
parts_state None outcome q = ap (state_of_parts None) (q refl)
parts_state (Some how) None q = sym (how_state how)
parts_state (Some how) (Some outcome) q = refl

pub state_told : (shape : Shape) (log : List Entry) (who : ℕ) (w : WaitId) (word : WaitWord) → Legal shape log
    → IsOwnWait who ((replay log).waits w) → IsWaitWord w log word → state_of_wait ((replay log).waits w) ≡ Some (state_found word)
state_told shape log who w word l own is = by_wait ((replay log).waits w) own ((sound shape log l).ended w)
    ∙ ap (λ (z : WaitWord). Some (state_found z)) (sym is.0)
  where
    by_wait : (y : Option Wait) → IsOwnWait who y → EndsResolved y → state_of_wait y ≡ Some (state_found (word_of_wait y))
    by_wait None own q = absurd own
    by_wait (Some x) own q = ap (λ (z : WaitState). Some z) (parts_state x.resolved x.settled q)
