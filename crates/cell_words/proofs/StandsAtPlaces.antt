-- Who was placed at a cell stands there, or is gone: its wait says which.
use Rattle.std.proofs.Common.{◌≡◌, ℕ, ◌+◌, ◌<◌, ◌==◌, ◌||◌, Bool, true, false, List, ◌∷◌, Option, Some, None, is_some, MatchBool, sym, refl, ap, ◌∙◌, arith}
use Rattle.std.specs.List.{list_any}
use Rattle.std.proofs.lemmas.Bool.Decides.{nat_tests}
use Rattle.channel_model.specs.declared.acts.Entry.{Entry}
use Rattle.channel_model.specs.declared.acts.Settled.{Settled}
use Rattle.channel_model.specs.declared.acts.Why.TheVariants.{Cancelled, Revoked}
use Rattle.channel_model.specs.declared.standing.Receiver.{Receiver}
use Rattle.channel_model.specs.declared.standing.Standing.{Standing}
use Rattle.channel_model.specs.declared.standing.Resolution.{Resolution}
use Rattle.channel_model.specs.declared.standing.Resolution.TheVariants as resolved
use Rattle.channel_model.specs.Channels.{Shape, Wait}
use Rattle.channel_model.specs.Histories.{replay, Legal}
use Rattle.channel_model.specs.Laws.{NoneBelow}
use Rattle.channel_model.specs.Answers.{IsResolvedWait}
use Rattle.channel_model.specs.Registers.{StandsOffer}
use Rattle.cell_words.specs.declared.found.At.{At}
use Rattle.cell_words.specs.declared.found.At.TheVariants as at
use Rattle.cell_words.specs.declared.found.Waiter.{Waiter}
use Rattle.word_rules.specs.declared.cell_word.CellState.{CellState}
use Rattle.word_rules.specs.declared.cell_word.CellState.TheVariants as state
use Rattle.word_rules.specs.declared.cell_word.CellWord.{CellWord}
use Rattle.word_rules.specs.declared.wait_word.WaitWord.{WaitWord}
use Rattle.co_base.specs.declared.names.WaitId.{WaitId}
use Rattle.word_rules.specs.Cells.{Cell, buffered, cell_of, standing, is_used}
use Rattle.word_rules.specs.Codes.{packed_wait}
use Rattle.word_rules.specs.Words.{parts_word, word_of_wait, wait_code}
use Rattle.cell_words.specs.Seen.{Seen, at_channel, Sees}
use Rattle.cell_words.specs.Looks.{is_nobody, found_by_sender, found_by_receiver}
use Rattle.cell_words.specs.Answers.{Receives, Offers, stands, OfferAt, ReceiveAt}
use Rattle.cell_words.specs.Clauses.{ClauseOfferAt, ClauseReceiveAt, ReceiverStandsAt, OfferStandsAt}
use Rattle.cell_words.proofs.ListsOfCells.{standing_is}
use Rattle.cell_words.proofs.OffersRemoved.{offer_place}
use Rattle.cell_words.proofs.CellsTellFacts.{now, tied_now, used_given, first_queue, past_offer}
use Rattle.cell_words.proofs.ExchangesTell.{receiver_lost}
use Rattle.cell_words.proofs.LooksAtCells.{below_seen, given_seen, sees_then, sees_makes}
use Rattle.cell_words.proofs.ReceiversOfClosedChannels.{in_front}
use Rattle.cell_words.proofs.WaitsResolved.{receiver_seen}

-- ---- what the word of a wait says

how_by : (how : Resolution) (outcome : Option Settled) → is_nobody (parts_word (Some how) outcome).by ≡ false
how_by (resolved.Withdrawn Cancelled) None = refl
how_by (resolved.Withdrawn Revoked) None = refl
how_by other None = refl
how_by (resolved.Withdrawn Cancelled) (Some o) = refl
how_by (resolved.Withdrawn Revoked) (Some o) = refl
how_by other (Some o) = refl

-- nobody resolved it: it has the word 0
nobody_code : (y : Option Wait) → is_nobody (word_of_wait y).by ≡ true → 0 ≡ wait_code y
nobody_code None h = refl
nobody_code (Some x) h = by_how x.resolved h
  where
    by_how : (how : Option Resolution) → is_nobody (parts_word how x.settled).by ≡ true → 0 ≡ packed_wait (parts_word how x.settled)
    by_how None h = refl
    by_how (Some how) h = let e = how_by how x.settled in cc

-- or somebody did
somebody : (y : Option Wait) → is_nobody (word_of_wait y).by ≡ false → IsResolvedWait y
somebody None h = cc
somebody (Some x) h = by_how x.resolved h
  where
    by_how : (how : Option Resolution) → is_nobody (parts_word how x.settled).by ≡ false → is_some how ≡ true
    by_how None h = cc
    by_how (Some how) h = refl

-- ---- the first of a list stands at its place

first_at : {X : Type 0} (place : X → ℕ) (x : X) (xs : List X) (p : ℕ) → place x ≡ p → list_any (λ y. place y == p) (x ∷ xs) ≡ true
first_at place x xs p e = ap (λ (n : ℕ). (n == p) || list_any (λ y. place y == p) xs) e ∙ same p (list_any (λ y. place y == p) xs)
  where
    same : (n : ℕ) (b : Bool) → ((n == n) || b) ≡ true
    same n b = grind (arith, nat_tests)

-- ---- a receiver

module _ (shape : Shape) (c p : ℕ) (x : Waiter) (v w : Seen) (l : Legal shape w.seen) (s : Sees v w)
    (low : NoneBelow p 0 (at_channel v.seen c)) (first : Receives shape c p x v.seen)
    (word : WaitWord) (is : word ≡ word_of_wait ((replay w.seen).waits first.held.wait)) where
  pub receiver_told : (b : Bool) → b ≡ is_nobody word.by → ReceiverStandsAt c p v w b
  receiver_told true e =
      let front = in_front shape w.seen l c p first.held.who x.clause first.held.wait (below_seen shape p 0 c v w s l low)
      (receiver_seen shape c p first.held.who x.clause first.held.wait v w s l first.cell)
      (nobody_code ((replay w.seen).waits first.held.wait) (sym (ap (λ (z : WaitWord). is_nobody z.by) is) ∙ sym e)) in (
        s,
        ap (λ (rs : List Receiver). list_any (λ (r : Receiver). r.place == p) rs) front.1
            ∙ first_at (λ (r : Receiver). r.place) (record { place = p; party = record { wait = first.held.wait; clause = x.clause } })
            front.0 p refl,
      )
  receiver_told false e = (
    s,
    receiver_lost shape v w l s c p first.held.who x.clause first.held.wait low first.cell
        (somebody ((replay w.seen).waits first.held.wait) (sym (ap (λ (z : WaitWord). is_nobody z.by) is) ∙ sym e)),
  )

-- ---- an offer

-- one that stands, where none does below, is the first
pub stands_first : (shape : Shape) (log : List Entry) (c p : ℕ) → Legal shape log → NoneBelow 0 p (at_channel log c)
    → p < (at_channel log c).next → is_some (stands log c p) ≡ true → StandsOffer c p (replay log)
stands_first shape log c p l low lt h = go (stands log c p) refl h
  where
    go : (o : Option Standing) → stands log c p ≡ o → is_some o ≡ true → StandsOffer c p (replay log)
    go None e h = cc
    go (Some o) e h =
        let t = tied_now shape log l in
        ap (λ (os : List Standing). list_any (λ (o : Standing). o.place == p) os) (first_queue (now log) c t 0 p o low e lt)
        ∙ first_at (λ (o : Standing). o.place) o _ p (offer_place (replay log).waits p (cell_of log c p) o
        (standing_is (replay log).waits p (cell_of log c p) o e))

pub offer_told : (shape : Shape) (c p : ℕ) (v w : Seen) → Legal shape v.seen → Legal shape w.seen → Sees v w
    → NoneBelow 0 p (at_channel v.seen c) → p < (at_channel v.seen c).next → (b : Bool)
    → MatchBool b (is_some (stands v.seen c p) ≡ true) (stands w.seen c p ≡ None) → OfferStandsAt c p v w b
offer_told shape c p v w lv lw s low lt true h = (s, stands_first shape v.seen c p lv low lt h)
offer_told shape c p v w lv lw s low lt false h =
    let le = given_seen shape (p + 1) c v w s lw (omega arith) in
    (s, past_offer (now w.seen) c (tied_now shape w.seen lw) 0 p (below_seen shape 0 p c v w s lw low) (omega arith) h)

-- an element that was put stands
pub kept_first : (shape : Shape) (log : List Entry) (c p y : ℕ) → Legal shape log → NoneBelow 0 p (at_channel log c)
    → cell_of log c p ≡ buffered y → StandsOffer c p (replay log)
kept_first shape log c p y l low e = stands_first shape log c p l low (used_given (now log) c p (tied_now shape log l) (ap is_used e))
    (ap (λ (x : Cell). is_some (standing (replay log).waits p x)) e)

-- an offer's place was given out
pub offers_given : (shape : Shape) (log : List Entry) (c p : ℕ) (x : Waiter) → Legal shape log → Offers shape c p x log
    → p < (at_channel log c).next
offers_given shape log c p x l h = used_given (now log) c p (tied_now shape log l) (ap is_used h.cell)

-- ---- a word that was found says to a clause what it says to a plain call

pub clause_offer_found : (shape : Shape) (who c p k value : ℕ) (main : Option WaitId) (word : CellWord) (s : CellState) (u v : Seen)
    → OfferAt shape who c p value u v (found_by_sender word s) → ClauseOfferAt shape who c p main k value u v (found_by_sender word s)
clause_offer_found shape who c p k value main word state.Free u v h = h
clause_offer_found shape who c p k value main word other u v h = h

pub clause_receive_found : (shape : Shape) (who c p k : ℕ) (main : Option WaitId) (word : CellWord) (s : CellState) (u v : Seen)
    → ReceiveAt shape who c p u v (found_by_receiver word s) → ClauseReceiveAt shape who c p main k u v (found_by_receiver word s)
clause_receive_found shape who c p k main word state.Free u v h = h
clause_receive_found shape who c p k main word other u v h = h

-- ---- after a look, what the last step found

pub clause_offer_later : (shape : Shape) (who c p k value : ℕ) (main : Option WaitId) (u v w : Seen) → Sees u v → (a : At)
    → ClauseOfferAt shape who c p main k value v w a → ClauseOfferAt shape who c p main k value u w a
clause_offer_later shape who c p k value main u v w s at.Open h = h
clause_offer_later shape who c p k value main u v w s at.Placed h = sees_makes u v w _ s h
clause_offer_later shape who c p k value main u v w s at.Put h = h
clause_offer_later shape who c p k value main u v w s (at.Waiting x) h = (sees_then u v w s h.0, h.1, h.2)
clause_offer_later shape who c p k value main u v w s (at.Kept y) h = h
clause_offer_later shape who c p k value main u v w s other h = (sees_then u v w s h.0, h.1)

pub clause_receive_later : (shape : Shape) (who c p k : ℕ) (main : Option WaitId) (u v w : Seen) → Sees u v → (a : At)
    → ClauseReceiveAt shape who c p main k v w a → ClauseReceiveAt shape who c p main k u w a
clause_receive_later shape who c p k main u v w s at.Spent h = (sees_then u v w s h.0, h.1)
clause_receive_later shape who c p k main u v w s at.Open h = h
clause_receive_later shape who c p k main u v w s at.Placed h = sees_makes u v w _ s h
clause_receive_later shape who c p k main u v w s at.Put h = h
clause_receive_later shape who c p k main u v w s at.Gone h = (sees_then u v w s h.0, h.1)
clause_receive_later shape who c p k main u v w s other h = (sees_then u v w s h.0, h.1, h.2)
