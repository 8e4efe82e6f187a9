-- What is found at a place by one who only looks.
use Rattle.std.proofs.Common.{◌≡◌, ℕ, ◌+◌, ◌≤◌, true, false, None, sym, refl, ap, ◌∙◌, subst, inl, inr, arith}
use Rattle.channel_model.specs.Channels.{Shape}
use Rattle.channel_model.specs.Histories.{replay, Legal}
use Rattle.channel_model.specs.Laws.{NoneBelow}
use Rattle.word_rules.specs.declared.cell_word.CellState.TheVariants as cell
use Rattle.word_rules.specs.declared.cell_word.CellWord.{CellWord}
use Rattle.cell_words.specs.declared.found.At.TheVariants as at
use Rattle.cell_words.specs.declared.hub.Hub.{Hub}
use Rattle.cell_words.specs.declared.pass.Pass.{Pass}
use Rattle.cell_words.specs.Hubs.{shape_of, IsOf, seen_by}
use Rattle.word_rules.specs.Cells.{Cell, free, receiver, offer, buffered, emptied, closed_by, voided_by, cell_of, standing, awaiting, is_used}
use Rattle.word_rules.specs.Words.{word_of_cell, CellFits}
use Rattle.cell_words.specs.Seen.{Seen, at_channel, Sees}
use Rattle.cell_words.specs.Looks.{is_used_state, found_by_sender, found_by_receiver}
use Rattle.cell_words.specs.Answers.{IsCellWord, ReceiverAt, SenderAt}
use Rattle.cell_words.proofs.CellsTellFacts.{now, tied_now, used_given, free_end, closed_end, none_line, past_receiver, end_below, end_at_next}
use Rattle.cell_words.proofs.LooksAtCells.{held_receiver, held_offer, state_free, hub_legal, used_not, unused_free, below_seen, given_seen}

module _ (shape : Shape) (c p : ℕ) (old new : Seen) (sees : Sees old new) (l : Legal shape new.seen) where
  past : NoneBelow p 0 (at_channel new.seen c) → is_used (cell_of new.seen c p) ≡ true
      → awaiting (replay new.seen).waits p (cell_of new.seen c p) ≡ None → NoneBelow (p + 1) 0 (at_channel new.seen c)
  past low u none = past_receiver (now new.seen) c (tied_now shape new.seen l) p 0 low
      (used_given (now new.seen) c p (tied_now shape new.seen l) u) none

  receiver_by_cell : NoneBelow p 0 (at_channel new.seen c) → (x : Cell) → cell_of new.seen c p ≡ x → CellFits shape x
      → ((word_of_cell shape c p x).state ≡ cell.Free → ⊥)
      → ReceiverAt shape c p old new (found_by_sender (word_of_cell shape c p x) (word_of_cell shape c p x).state)
  unfolding held_receiver
  receiver_by_cell low free e f ne = absurd (ne refl)
  receiver_by_cell low (receiver t w k) e f ne = (sees, low, record { held = held_receiver shape new.seen l c p t k w f e; cell = e })
  receiver_by_cell low (offer v t w k) e f ne = (sees, past low (ap is_used e) (ap (awaiting (replay new.seen).waits p) e))
  receiver_by_cell low (buffered v) e f ne = (sees, past low (ap is_used e) (ap (awaiting (replay new.seen).waits p) e))
  receiver_by_cell low (emptied v) e f ne = (sees, past low (ap is_used e) (ap (awaiting (replay new.seen).waits p) e))
  receiver_by_cell low (closed_by v) e f ne = let t = tied_now shape new.seen l
      in (sees, closed_end (now new.seen) c p v t (inl e), none_line (now new.seen) c t p 0 low (end_below (now new.seen) c p v t (inl e)))
  receiver_by_cell low (voided_by v) e f ne = let t = tied_now shape new.seen l
      in (sees, closed_end (now new.seen) c p v t (inr e), none_line (now new.seen) c t p 0 low (end_below (now new.seen) c p v t (inr e)))

  pub receiver_found : NoneBelow p 0 (at_channel new.seen c) → (word : CellWord) → IsCellWord shape c p new.seen word
      → (word.state ≡ cell.Free → ⊥) → ReceiverAt shape c p old new (found_by_sender word word.state)
  receiver_found low word is = subst (λ (z : CellWord). (z.state ≡ cell.Free → ⊥)
      → ReceiverAt shape c p old new (found_by_sender z z.state)) (sym is.0) (receiver_by_cell low (cell_of new.seen c p) refl is.1)

  -- a free cell
  pub receiver_none : NoneBelow p 0 (at_channel new.seen c) → (word : CellWord) → IsCellWord shape c p new.seen word
      → word.state ≡ cell.Free → ((at_channel new.seen c).next ≡ p) × ((at_channel new.seen c).closed ≡ None)
  receiver_none low word is e = free_end (now new.seen) c p (tied_now shape new.seen l) low.given
      (state_free shape c p word (cell_of new.seen c p) is.0 e)

  given_here : (x : Cell) → cell_of new.seen c p ≡ x → is_used x ≡ true → p + 1 ≤ (at_channel new.seen c).next
  given_here x e u = let lt = used_given (now new.seen) c p (tied_now shape new.seen l) (ap is_used e ∙ u) in omega arith

  sender_by_cell : (x : Cell) → cell_of new.seen c p ≡ x → CellFits shape x → ((word_of_cell shape c p x).state ≡ cell.Free → ⊥)
      → SenderAt shape c p old new (found_by_receiver (word_of_cell shape c p x) (word_of_cell shape c p x).state)
  unfolding held_offer
  sender_by_cell free e f ne = absurd (ne refl)
  sender_by_cell (receiver t w k) e f ne = (sees, given_here (receiver t w k) e refl, ap (standing (replay new.seen).waits p) e)
  sender_by_cell (offer v t w k) e f ne = (sees, record { held = held_offer shape new.seen l c p t k w f.0 v e; cell = e })
  sender_by_cell (buffered v) e f ne = (sees, e)
  sender_by_cell (emptied v) e f ne = (sees, given_here (emptied v) e refl, ap (standing (replay new.seen).waits p) e)
  sender_by_cell (closed_by v) e f ne = (sees, end_at_next (now new.seen) c p v (tied_now shape new.seen l) (inl e))
  sender_by_cell (voided_by v) e f ne = (sees, end_at_next (now new.seen) c p v (tied_now shape new.seen l) (inr e))

  pub sender_found : (word : CellWord) → IsCellWord shape c p new.seen word → (word.state ≡ cell.Free → ⊥)
      → SenderAt shape c p old new (found_by_receiver word word.state)
  sender_found word is = subst (λ (z : CellWord). (z.state ≡ cell.Free → ⊥)
      → SenderAt shape c p old new (found_by_receiver z z.state)) (sym is.0) (sender_by_cell (cell_of new.seen c p) refl is.1)

  -- a free cell
  pub sender_none : p ≤ (at_channel new.seen c).next → (word : CellWord) → IsCellWord shape c p new.seen word → word.state ≡ cell.Free
      → (at_channel new.seen c).next ≡ p
  sender_none le word is e = (free_end (now new.seen) c p (tied_now shape new.seen l) le
      (state_free shape c p word (cell_of new.seen c p) is.0 e)).0

-- of a word that a pass loaded: that it is used, or free
module _ (hub : Hub) (pass : Pass) (of : IsOf hub pass) (c p : ℕ) (v : Seen) (s : Sees v (seen_by pass)) (word : CellWord)
    (is : IsCellWord (shape_of hub) c p (seen_by pass).seen word) where
  pub receiver_used : NoneBelow p 0 (at_channel v.seen c) → is_used_state word.state ≡ true
      → ReceiverAt (shape_of hub) c p v (seen_by pass) (found_by_sender word word.state)
  receiver_used low used = let l = hub_legal hub pass of
      in receiver_found (shape_of hub) c p v (seen_by pass) s l (below_seen (shape_of hub) p 0 c v (seen_by pass) s l low) word is
      (used_not word.state used)

  pub receiver_free : NoneBelow p 0 (at_channel v.seen c) → is_used_state word.state ≡ false
      → ReceiverAt (shape_of hub) c p v (seen_by pass) at.Open
  receiver_free low unused =
      let l = hub_legal hub pass of in
      let n = receiver_none (shape_of hub) c p v (seen_by pass) s l (below_seen (shape_of hub) p 0 c v (seen_by pass) s l low) word is
      (unused_free word.state unused) in
      (s, n.0, n.1)

  pub sender_used : is_used_state word.state ≡ true → SenderAt (shape_of hub) c p v (seen_by pass) (found_by_receiver word word.state)
  sender_used used = sender_found (shape_of hub) c p v (seen_by pass) s (hub_legal hub pass of) word is (used_not word.state used)

  pub sender_free : p ≤ (at_channel v.seen c).next → is_used_state word.state ≡ false → SenderAt (shape_of hub) c p v (seen_by pass) at.Open
  sender_free given unused = let l = hub_legal hub pass of
      in (
        s,
        sender_none (shape_of hub) c p v (seen_by pass) s l (given_seen (shape_of hub) p c v (seen_by pass) s l given) word is
            (unused_free word.state unused),
      )
