-- What a walk has counted, and what was so while it went.
use Rattle.std.proofs.Common.{◌≡◌, ℕ, ◌+◌, ◌<◌, ◌≤◌, ◌-◌, nat_le, Bool, true, false, List, [], ◌∷◌, length, None, is_some, sym, refl, ap, ◌∙◌, subst, arith, MatchBool}
use Rattle.std.specs.List.{list_all}
use Rattle.std.proofs.lemmas.Bool.{leb-true, leb-false}
use Rattle.std.proofs.lemmas.Bool.Decides.{nat_tests}
use mathlib.Core.Logic.{dite}
use native.Mathlib.Decide.{ℕ_discrete}
use Rattle.co_base.specs.declared.names.WaitId.{WaitId}
use Rattle.channel_model.specs.declared.acts.Entry.{Entry}
use Rattle.channel_model.specs.declared.acts.Kind.{Kind}
use Rattle.channel_model.specs.declared.standing.Standing.{Standing}
use Rattle.channel_model.specs.declared.acts.Kind.TheVariants.{Rendezvous, Buffered, Unlimited}
use Rattle.channel_model.specs.Channels.{Shape, Channel, kind_at, is_full, suspends, is_signal}
use Rattle.channel_model.specs.Histories.{replay, Legal}
use Rattle.channel_model.specs.Laws.{NoneBelow}
use Rattle.channel_model.proofs.Elements.{all_first, all_rest, all_more}
use Rattle.word_rules.specs.declared.cell_word.CellState.{CellState}
use Rattle.word_rules.specs.declared.cell_word.CellState.TheVariants as state
use Rattle.word_rules.specs.declared.cell_word.CellWord.{CellWord}
use Rattle.word_rules.specs.declared.wait_word.WaitWord.{WaitWord}
use Rattle.cell_words.specs.declared.found.At.{At}
use Rattle.cell_words.specs.declared.found.At.TheVariants as at
use Rattle.word_rules.specs.Cells.{Cell, free, receiver, offer, buffered, emptied, closed_by, voided_by, cell_of, gather, standing}
use Rattle.word_rules.specs.Words.{PartyFits, word_of_cell, CellFits}
use Rattle.cell_words.specs.Seen.{Seen, at_channel, Sees}
use Rattle.cell_words.specs.Looks.{holder_of, found_by_sender, found_by_receiver, lets_stand}
use Rattle.cell_words.specs.Answers.{IsCellWord, IsWaitWord, IsHolder, stands, OfferAt, OfferHere, ReceiveAt, TriedReceiveAt}
use Rattle.cell_words.proofs.GatheredLists.{gather_none}
use Rattle.cell_words.proofs.CountsOfOffers.{gone_more, stood_before, count_some, count_none, count_next, count_less, count_up, count_within}
use Rattle.cell_words.proofs.ExchangesTell.{stood_at, gone_at}
use Rattle.cell_words.proofs.LooksAtCells.{holder_is, state_free, sees_then, sees_makes, given_seen}
use Rattle.cell_words.proofs.CellsTellFacts.{now, tied_now, free_end, none_offers, none_line, none_queue}
use Rattle.channel_model.specs.Answers.{IsFullToTry, IsEmptyToTry}

pub stood_seen : (shape : Shape) (c p : ℕ) (v w : Seen) → Sees v w → Legal shape v.seen → Legal shape w.seen
    → p < (at_channel v.seen c).next → is_some (stands w.seen c p) ≡ true → is_some (stands v.seen c p) ≡ true
stood_seen shape c p v w s lv lw lt h = stood_before shape c p v.seen s.others lv (subst (Legal shape) s.now lw) lt
    (subst (λ (es : List Entry). is_some (stands es c p) ≡ true) s.now h)

pub gone_seen : (shape : Shape) (c p : ℕ) (v w : Seen) → Sees v w → Legal shape v.seen → Legal shape w.seen → p < (at_channel v.seen c).next
    → stands v.seen c p ≡ None → stands w.seen c p ≡ None
gone_seen shape c p v w s lv lw lt h = subst (λ (es : List Entry). stands es c p ≡ None) (sym s.now)
    (gone_more shape c p v.seen s.others lv (subst (Legal shape) s.now lw) lt h)

-- ---- what stands, by the state of a cell

-- an offer's cell
pub record OfferCell (shape : Shape) (c p : ℕ) (word : CellWord) (log : List Entry) : Type 0 where
  pub value : ℕ
  pub who : ℕ
  pub wait : WaitId
  pub cell : cell_of log c p ≡ offer value who wait word.clause
  pub fits : PartyFits shape who wait word.clause
  pub holder : IsHolder shape c p (holder_of word) who wait

module _ (shape : Shape) (c p : ℕ) (log : List Entry) where
  stands_buffered : (x : Cell) → cell_of log c p ≡ x → (word_of_cell shape c p x).state ≡ state.Buffered → is_some (stands log c p) ≡ true
  stands_buffered free e s = cc
  stands_buffered (receiver who w k) e s = cc
  stands_buffered (offer v who w k) e s = cc
  stands_buffered (buffered v) e s = ap (λ (y : Cell). is_some (standing (replay log).waits p y)) e
  stands_buffered (emptied v) e s = cc
  stands_buffered (closed_by v) e s = cc
  stands_buffered (voided_by v) e s = cc

  pub state_buffered : (word : CellWord) → IsCellWord shape c p log word → word.state ≡ state.Buffered → is_some (stands log c p) ≡ true
  state_buffered word is s = stands_buffered (cell_of log c p) refl (sym (ap (λ (z : CellWord). z.state) is.0) ∙ s)

  offer_cell : (x : Cell) → cell_of log c p ≡ x → CellFits shape x → (word_of_cell shape c p x).state ≡ state.Offer
      → OfferCell shape c p (word_of_cell shape c p x) log
  offer_cell free e f s = cc
  offer_cell (receiver who w k) e f s = cc
  offer_cell (offer v who w k) e f s = record {
    value = v;
    who = who;
    wait = w;
    cell = e;
    fits = f.0;
    holder =
        holder_is shape c p v who k state.Offer w f.0;
  }
  offer_cell (buffered v) e f s = cc
  offer_cell other e f s = cc

  pub state_offer : (word : CellWord) → IsCellWord shape c p log word → word.state ≡ state.Offer → OfferCell shape c p word log
  state_offer word is = subst (λ (z : CellWord). z.state ≡ state.Offer
      → OfferCell shape c p z log) (sym is.0) (offer_cell (cell_of log c p) refl is.1)

-- of an offer's cell, and then its wait
pub wait_told : (shape : Shape) (c p value owner k : ℕ) (x : WaitId) (word : WaitWord) (u v w : Seen) → Sees u v → Sees v w
    → Legal shape u.seen → Legal shape v.seen → Legal shape w.seen → p < (at_channel u.seen c).next
    → cell_of v.seen c p ≡ offer value owner x k → IsWaitWord x w.seen word
    → (b : Bool) → b ≡ lets_stand word k → MatchBool b (is_some (stands u.seen c p) ≡ true) (stands w.seen c p ≡ None)
wait_told shape c p value owner k x word u v w s r lu lv lw lt at is true h =
    stood_seen shape c p u v s lu lv lt (stood_at shape c p value owner k x word v.seen r.others lv (subst (Legal shape) r.now lw) at
    (subst (λ (es : List Entry). IsWaitWord x es word) r.now is) (sym h))
wait_told shape c p value owner k x word u v w s r lu lv lw lt at is false h =
    subst (λ (es : List Entry). stands es c p ≡ None) (sym r.now)
    (gone_at shape c p value owner k x word v.seen r.others (subst (Legal shape) r.now lw) at
    (subst (λ (es : List Entry). IsWaitWord x es word) r.now is) (sym h))

-- what the walk has counted so far: of the offers that stood at the beginning, and of those that stand now
pub record Counted (c place count : ℕ) (first v : Seen) : Type 0 where
  pub lower : count ≤ length (gather (stands first.seen c) place)
  pub upper : length (gather (stands v.seen c) place) ≤ count

upper_seen : (shape : Shape) (c place : ℕ) (v w : Seen) → Sees v w → Legal shape v.seen → Legal shape w.seen
    → place ≤ (at_channel v.seen c).next → length (gather (stands w.seen c) place) ≤ length (gather (stands v.seen c) place)
upper_seen shape c place v w s lv lw le = count_less (stands v.seen c) (stands w.seen c) place
    (λ q lt e. gone_seen shape c q v w s lv lw (omega arith) e)

-- a walk begins where no offer stands below
pub counted_low : (shape : Shape) (c from : ℕ) (v : Seen) → Legal shape v.seen → NoneBelow 0 from (at_channel v.seen c)
    → Counted c from 0 v v
counted_low shape c from v l low = record {
  lower = omega arith;
  upper = let e = ap length (gather_none (stands v.seen c) from
      (λ q lt. none_offers (now v.seen) c (tied_now shape v.seen l) 0 from low q lt)) in omega arith;
}

-- of fewer places
pub fewer_below : (m n : ℕ) (ch : Channel) → m ≤ n → NoneBelow 0 n ch → NoneBelow 0 m ch
fewer_below m n ch le h = record {
  given = h.given;
  given_offers = let g = h.given_offers in omega arith;
  receivers = h.receivers;
  offers = fewer ch.queue h.offers;
}
  where
    fewer : (os : List Standing) → list_all (λ (o : Standing). nat_le n o.place) os ≡ true
        → list_all (λ (o : Standing). nat_le m o.place) os ≡ true
    fewer [] e = refl
    fewer (o ∷ os) e = all_more (λ (x : Standing). nat_le m x.place) o os
        (lower_too o.place (all_first (λ (x : Standing). nat_le n x.place) o os e))
        (fewer os (all_rest (λ (x : Standing). nat_le n x.place) o os e))
      where
        lower_too : (k : ℕ) → nat_le n k ≡ true → nat_le m k ≡ true
        lower_too k f = grind (arith, nat_tests)

-- what was counted from a later moment on
pub count_before : (shape : Shape) (c end most : ℕ) (u v w : Seen) → Sees u v → Legal shape u.seen → Legal shape v.seen
    → end ≤ (at_channel u.seen c).next → (b : Bool) → MatchBool b (most ≤ length (gather (stands v.seen c) end))
    (length (gather (stands w.seen c) end) < most)
    → MatchBool b (most ≤ length (gather (stands u.seen c) end)) (length (gather (stands w.seen c) end) < most)
count_before shape c end most u v w s lu lv le true h = let m = upper_seen shape c end u v s lu lv le in omega arith
count_before shape c end most u v w s lu lv le false h = h

pub counted_stands : (shape : Shape) (c place count : ℕ) (first v w : Seen) → Sees first v → Sees v w → Legal shape first.seen
    → Legal shape v.seen → Legal shape w.seen → place < (at_channel first.seen c).next → Counted c place count first v
    → is_some (stands v.seen c place) ≡ true → Counted c (place + 1) (count + 1) first w
counted_stands shape c place count first v w s r lf lv lw lt h st = record {
  lower = count_some (stands first.seen c) place count h.lower (stood_seen shape c place first v s lf lv lt st);
  upper = count_next (stands w.seen c) place count (let m =
      upper_seen shape c place v w r lv lw (given_seen shape place c first v s lv (omega arith)) in let k = h.upper in omega arith);
}

pub counted_gone : (shape : Shape) (c place count : ℕ) (first v w : Seen) → Sees first v → Sees v w → Legal shape v.seen
    → Legal shape w.seen → place < (at_channel first.seen c).next → Counted c place count first v → stands w.seen c place ≡ None
    → Counted c (place + 1) count first w
counted_gone shape c place count first v w s r lv lw lt h none = record {
  lower = let m = count_up (stands first.seen c) place 1 (place + 1) refl in let k = h.lower in omega arith;
  upper = let e = count_none (stands w.seen c) place none
      in let m = upper_seen shape c place v w r lv lw (given_seen shape place c first v s lv (omega arith)) in let k = h.upper
      in omega arith;
}

pub lower_end : (c place end count : ℕ) (first v : Seen) → place ≤ end → Counted c place count first v
    → count ≤ length (gather (stands first.seen c) end)
lower_end c place end count first v le h = let m = count_up (stands first.seen c) place (end - place) end (omega arith) in let k = h.lower
    in omega arith

-- ---- an offer, where the channel ends

pub full_then : (shape : Shape) (c p : ℕ) (word : CellWord) (seen : List Entry) → Legal shape seen → NoneBelow p 0 (at_channel seen c)
    → IsCellWord shape c p seen word → word.state ≡ state.Free → is_full (kind_at shape c) (length (gather (stands seen c) p)) ≡ true
    → is_full (kind_at shape c) (length (at_channel seen c).queue) ≡ true
full_then shape c p word seen l low is none h =
    let t = tied_now shape seen l in
    let at = free_end (now seen) c p t low.given (state_free shape c p word (cell_of seen c p) is.0 none) in
    subst (λ (m : ℕ). is_full (kind_at shape c) m ≡ true) (sym (ap length (t.queues c ∙ ap (gather (stands seen c)) at.0))) h

pub full_holds : (k : Kind) (n : ℕ) → is_signal k ≡ false → is_full k n ≡ true → suspends k ≡ true
full_holds Rendezvous n e h = refl
full_holds (Buffered k) n e h = refl
full_holds Unlimited n e h = cc
full_holds other n e h = cc

-- after some looks, what the last step found
pub later_at : (waits : Bool) (shape : Shape) (who c p value : ℕ) (u v w : Seen) → Sees u v → (x : Seen) → Sees v x → (a : At)
    → (a ≡ at.Placed → (waits ≡ true) × (is_full (kind_at shape c) (length (at_channel v.seen c).queue) ≡ true))
    → OfferAt shape who c p value x w a → OfferHere waits shape who c p value u w a
later_at waits shape who c p value u v w s x r at.Open full h = absurd h
later_at waits shape who c p value u v w s x r at.Placed full h = let f = full refl
    in (f.0, record { then = v; sees = s; full = f.1; made = sees_makes v x w _ r h })
later_at waits shape who c p value u v w s x r at.Put full h = sees_makes u v w _ s (sees_makes v x w _ r h)
later_at waits shape who c p value u v w s x r (at.Waiting y) full h = (sees_then u v w s (sees_then v x w r h.0), h.1, h.2)
later_at waits shape who c p value u v w s x r (at.Kept y) full h = absurd h
later_at waits shape who c p value u v w s x r other full h = (sees_then u v w s (sees_then v x w r h.0), h.1)

-- a word that was found says the same to one who may wait and to one who does not
pub found_here : (waits : Bool) (shape : Shape) (who c p value : ℕ) (word : CellWord) (s : CellState) (u v : Seen)
    → OfferAt shape who c p value u v (found_by_sender word s) → OfferHere waits shape who c p value u v (found_by_sender word s)
found_here waits shape who c p value word state.Free u v h = h
found_here waits shape who c p value word other u v h = h

pub count_end : (most count first last : ℕ) → count ≤ first → last ≤ count → MatchBool (nat_le most count) (most ≤ first) (last < most)
count_end most count first last h k = go (nat_le most count) refl
  where
    go : (b : Bool) → nat_le most count ≡ b → MatchBool b (most ≤ first) (last < most)
    go true e = let m = leb-true most count e in omega arith
    go false e = let m = leb-false most count e in omega arith

pub upper_end : (c place end count : ℕ) (first v : Seen) → place ≤ end → end ≤ place → Counted c place count first v
    → length (gather (stands v.seen c) end) ≤ count
upper_end c place end count first v le ge h = subst (λ (n : ℕ). length (gather (stands v.seen c) n) ≤ count) (omega arith) h.upper

-- where the places that are left are too few
pub too_few : (c place end count most : ℕ) (first v : Seen) → place ≤ end → count ≤ most → end - place < most - count
    → Counted c place count first v → length (gather (stands v.seen c) end) < most
too_few c place end count most first v le few lt h =
    let m = count_within (stands v.seen c) place count (end - place) end (omega arith) h.upper in omega arith

-- where all places are too few
pub few_places : (c end most : ℕ) (v : Seen) → end < most → length (gather (stands v.seen c) end) < most
few_places c end most v lt = let m = count_within (stands v.seen c) 0 0 end end (omega arith) (omega arith) in omega arith

pub less_than : (n m : ℕ) → n ≤ m → (n ≡ m → ⊥) → n + 1 ≤ m
less_than n m le ne = dite (ℕ_discrete n m) (λ e. absurd (ne e)) (λ no. omega arith)

-- after some looks, what an offer found
pub offer_at_seen : (shape : Shape) (who c p value : ℕ) (u v w : Seen) → Sees u v → (a : At) → OfferAt shape who c p value v w a
    → OfferAt shape who c p value u w a
offer_at_seen shape who c p value u v w s at.Open h = absurd h
offer_at_seen shape who c p value u v w s at.Placed h = sees_makes u v w _ s h
offer_at_seen shape who c p value u v w s at.Put h = sees_makes u v w _ s h
offer_at_seen shape who c p value u v w s (at.Waiting y) h = (sees_then u v w s h.0, h.1, h.2)
offer_at_seen shape who c p value u v w s (at.Kept y) h = absurd h
offer_at_seen shape who c p value u v w s other h = (sees_then u v w s h.0, h.1)

-- one who receives and never waits: a word that was found says the same to it
pub receive_tried : (shape : Shape) (who c p : ℕ) (word : CellWord) (s : CellState) (u v : Seen)
    → ReceiveAt shape who c p u v (found_by_receiver word s) → TriedReceiveAt shape who c p u v (found_by_receiver word s)
receive_tried shape who c p word state.Free u v h = h
receive_tried shape who c p word other u v h = h

-- a free end of an open channel
module _ (shape : Shape) (c p : ℕ) (word : CellWord) (seen : List Entry) (l : Legal shape seen) (is : IsCellWord shape c p seen word)
    (none : word.state ≡ state.Free) where
  pub full_to_try : is_signal (kind_at shape c) ≡ false → NoneBelow p 0 (at_channel seen c)
      → is_full (kind_at shape c) (length (gather (stands seen c) p)) ≡ true → IsFullToTry shape c (replay seen)
  full_to_try kind low full =
      let t = tied_now shape seen l in
      let at = free_end (now seen) c p t low.given (state_free shape c p word (cell_of seen c p) is.0 none) in record {
        may_wait = full_holds (kind_at shape c) (length (gather (stands seen c) p)) kind full;
        not_closed = at.1;
        nobody = none_line (now seen) c t p 0 low (omega (arith, at.0));
        full = full_then shape c p word seen l low is none full;
      }

  pub empty_to_try : NoneBelow 0 p (at_channel seen c) → IsEmptyToTry c (replay seen)
  empty_to_try low =
      let t = tied_now shape seen l in
      let at = free_end (now seen) c p t low.given_offers (state_free shape c p word (cell_of seen c p) is.0 none) in
      record { not_closed = at.1; nothing = none_queue (now seen) c t 0 p low (omega (arith, at.0)) }
