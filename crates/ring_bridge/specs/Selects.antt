-- A select over rings: what its clauses come to.
use Rattle.std.specs.Prelude.{◌≡◌, ◌⊎◌, ℕ, ◌+◌, Option, Some, None, Result}
use Rattle.ring_channel.specs.declared.act.RingSide.TheVariants.{Receive, Send}
use Rattle.ring_channel.specs.declared.answers.ReceiveOutcome.TheVariants as receives
use Rattle.ring_channel.specs.declared.answers.SendOutcome.TheVariants as sends
use Rattle.ring_channel.specs.Outcomes.{ReceiveAnswer, SendAnswer}
use Rattle.ring_channel.specs.Passes.{SamePass, seen_by, tag_of}
use Rattle.ring_bridge.specs.declared.clauses.Chosen.{Chosen}
use Rattle.ring_bridge.specs.declared.clauses.Chosen.TheVariants as chosen
use Rattle.ring_bridge.specs.declared.clauses.ClauseTurn.{ClauseTurn}
use Rattle.ring_bridge.specs.declared.clauses.ClauseTurn.TheVariants as turn
use Rattle.ring_bridge.specs.declared.clauses.InOrder.{InOrder}
use Rattle.ring_bridge.specs.declared.clauses.ReceiveClause.{ReceiveClause}
use Rattle.ring_bridge.specs.declared.clauses.SendClause.{SendClause}
use Rattle.ring_bridge.specs.declared.sinks.RingSinkFault.{RingSinkFault}
use Rattle.ring_bridge.specs.Leaves.{LeftBy}
use Rattle.ring_bridge.specs.Waits.{ReceivedOrOver, SentOrNot}

module _ {T : Type 0} where
  -- ---- to receive

  -- it is a clause of the same ring, with the same tags
  abbrev pub SameReceive : ReceiveClause T → ReceiveClause T → Type 0
  SameReceive old new = (new.ring.now ≡ old.ring.now) × SamePass old.pass new.pass

  -- it received the value of a place, or the ring is over; or it waits, or others came first all the time
  abbrev pub ReceiveTurns : ReceiveClause T → ReceiveClause T → ClauseTurn (Option (ℕ × T)) → Type 0
  ReceiveTurns old new (turn.Done r) =
      ReceivedOrOver old.ring.now.slots (tag_of old.pass) (seen_by old.pass) (seen_by new.pass) r
  ReceiveTurns old new turn.Waits =
      ReceiveAnswer old.ring.now.slots (tag_of old.pass) (seen_by old.pass) (seen_by new.pass) receives.Waits
  ReceiveTurns old new turn.Again =
      ReceiveAnswer old.ring.now.slots (tag_of old.pass) (seen_by old.pass) (seen_by new.pass) receives.Passed

  -- it waits no more, and named another in its place
  abbrev pub ReceiveLeaves : ReceiveClause T → ReceiveClause T → Type 0
  ReceiveLeaves old new = LeftBy old.ring.now.slots (tag_of old.pass) Receive (seen_by old.pass) (seen_by new.pass)

  -- ---- to send

  -- the same of a clause that sends
  abbrev pub SameSend : SendClause T → SendClause T → Type 0
  SameSend old new = (new.ring.now ≡ old.ring.now) × SamePass old.pass new.pass

  -- x was sent, or comes back; or it waits, or others came first all the time; where there is no value nothing is done
  abbrev pub SendsOf : Option T → SendClause T → SendClause T → ClauseTurn (Result ℕ (RingSinkFault T)) → Type 0
  SendsOf None old new r = (r ≡ turn.Waits) × (new.value ≡ None) × (new.pass ≡ old.pass)
  SendsOf (Some x) old new (turn.Done r) =
      (new.value ≡ None)
      × SentOrNot old.ring.now.slots old.ring.now.places (tag_of old.pass) x (seen_by old.pass) (seen_by new.pass) r
  SendsOf (Some x) old new turn.Waits =
      (new.value ≡ Some x)
      × SendAnswer old.ring.now.slots old.ring.now.places (tag_of old.pass) x (seen_by old.pass) (seen_by new.pass) (sends.Waits x)
  SendsOf (Some x) old new turn.Again =
      (new.value ≡ Some x)
      × SendAnswer old.ring.now.slots old.ring.now.places (tag_of old.pass) x (seen_by old.pass) (seen_by new.pass) (sends.Passed x)

  -- the same of the value that the clause has
  abbrev pub SendTurns : SendClause T → SendClause T → ClauseTurn (Result ℕ (RingSinkFault T)) → Type 0
  SendTurns old new r = SendsOf old.value old new r

  -- it waits no more, and named another in its place; the value is still its own
  abbrev pub SendLeaves : SendClause T → SendClause T → Type 0
  SendLeaves old new =
      LeftBy old.ring.now.slots (tag_of old.pass) Send (seen_by old.pass) (seen_by new.pass) × (new.value ≡ old.value)

-- ---- clauses of any kind

-- one turn without an answer for good
abbrev pub NotYet : {C X : Type 0} → (C → C → ClauseTurn X → Type 0) → C → C → Type 0
NotYet Turn old new = Turn old new turn.Waits ⊎ Turn old new turn.Again

-- Two clauses in order. Where the first answers, the second is left; where it does not, and the second answers, the first is left
abbrev pub InOrderTurns : {A B X Y : Type 0} → (A → A → ClauseTurn X → Type 0) → (A → A → Type 0)
    → (B → B → ClauseTurn Y → Type 0) → (B → B → Type 0) → InOrder A B → InOrder A B → ClauseTurn (Chosen X Y) → Type 0
InOrderTurns TurnA LeavesA TurnB LeavesB old new (turn.Done (chosen.First x)) =
    TurnA old.first new.first (turn.Done x) × LeavesB old.second new.second
InOrderTurns TurnA LeavesA TurnB LeavesB old new (turn.Done (chosen.Second y)) =
    (u : _) × NotYet TurnA old.first u × LeavesA u new.first × TurnB old.second new.second (turn.Done y)
InOrderTurns TurnA LeavesA TurnB LeavesB old new turn.Waits =
    TurnA old.first new.first turn.Waits × TurnB old.second new.second turn.Waits
InOrderTurns TurnA LeavesA TurnB LeavesB old new turn.Again =
    NotYet TurnA old.first new.first × NotYet TurnB old.second new.second
    × (TurnA old.first new.first turn.Again ⊎ TurnB old.second new.second turn.Again)

-- both are left
abbrev pub InOrderLeaves : {A B : Type 0} → (A → A → Type 0) → (B → B → Type 0) → InOrder A B → InOrder A B → Type 0
InOrderLeaves LeavesA LeavesB old new = LeavesA old.first new.first × LeavesB old.second new.second

-- it had no answer so many times, one after the other
pub data TriedClause {C X : Type 0} (Turn : C → C → ClauseTurn X → Type 0) : ℕ → C → C → Type 0 where
  first : (c : C) → TriedClause Turn 0 c c
  again : (k : ℕ) (a b c : C) → TriedClause Turn k a b → NotYet Turn b c → TriedClause Turn (k + 1) a c

-- the answer, after a number of turns without one
pub record SelectAnswer {C X : Type 0} (Turn : C → C → ClauseTurn X → Type 0) (old new : C) (x : X) : Type 0 where
  pub times : ℕ
  pub last : C
  pub tried : TriedClause Turn times old last
  pub answer : Turn last new (turn.Done x)
