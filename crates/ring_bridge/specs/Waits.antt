-- What a send and a receive come to that sleep while they have to wait.
use Rattle.std.specs.Prelude.{◌≡◌, ◌⊎◌, ℕ, Option, Some, None, Result, Ok, Err}
use Rattle.ring_channel.specs.declared.answers.Called.{Called}
use Rattle.ring_channel.specs.declared.answers.Wakes.{Wakes}
use Rattle.ring_channel.specs.declared.answers.ReceiveOutcome.TheVariants as receives
use Rattle.ring_channel.specs.declared.answers.SendOutcome.TheVariants as sends
use Rattle.ring_channel.specs.Seen.{Seen}
use Rattle.ring_channel.specs.Outcomes.{Tried, ReceiveAnswer, SendAnswer}
use Rattle.ring_bridge.specs.declared.sinks.RingSinkFault.{RingSinkFault}
use Rattle.ring_bridge.specs.declared.sinks.RingSinkFault.TheVariants as fault

module _ {T : Type 0} where
  -- it waits, or others came first all the time
  abbrev pub NotYetReceived : ℕ → ℕ → Seen T → Seen T → Type 0
  NotYetReceived n who v w = ReceiveAnswer n who v w receives.Waits ⊎ ReceiveAnswer n who v w receives.Passed

  -- the same; the value came back
  abbrev pub NotYetSent : ℕ → ℕ → ℕ → T → Seen T → Seen T → Type 0
  NotYetSent n places who x v w = SendAnswer n places who x v w (sends.Waits x) ⊎ SendAnswer n places who x v w (sends.Passed x)

  -- a receive that answers for good: the value of a place, or the end of the ring
  abbrev pub ReceivedOrOver : ℕ → ℕ → Seen T → Seen T → Option (ℕ × T) → Type 0
  ReceivedOrOver n who v w (Some r) = (wakes : Wakes) × ReceiveAnswer n who v w (receives.Received r.0 r.1 wakes)
  ReceivedOrOver n who v w None = (called : Called) × ReceiveAnswer n who v w (receives.Closed called)

  -- a send that answers for good: the place, or why there is none
  abbrev pub SentOrNot : ℕ → ℕ → ℕ → T → Seen T → Seen T → Result ℕ (RingSinkFault T) → Type 0
  SentOrNot n places who x v w (Ok p) = (wakes : Wakes) × SendAnswer n places who x v w (sends.Sent p wakes)
  SentOrNot n places who x v w (Err (fault.Closed y)) = (called : Called) × SendAnswer n places who x v w (sends.Closed y called)
  SentOrNot n places who x v w (Err (fault.Spent y)) = (called : Called) × SendAnswer n places who x v w (sends.Spent y called)

  -- one turn: an answer for good, or none yet
  abbrev pub ReceiveTurn : ℕ → ℕ → Seen T → Seen T → Option (Option (ℕ × T)) → Type 0
  ReceiveTurn n who v w None = NotYetReceived n who v w
  ReceiveTurn n who v w (Some r) = ReceivedOrOver n who v w r

  abbrev pub SendTurn : ℕ → ℕ → ℕ → T → Seen T → Seen T → Result (Result ℕ (RingSinkFault T)) T → Type 0
  SendTurn n places who x v w (Ok r) = SentOrNot n places who x v w r
  SendTurn n places who x v w (Err y) = (y ≡ x) × NotYetSent n places who x v w

  -- it waited a number of times
  pub record WaitedToReceive (n who : ℕ) (v w : Seen T) : Type 0 where
    pub times : ℕ
    pub waited : Tried (NotYetReceived n who) times v w

  pub record WaitedToSend (n places who : ℕ) (x : T) (v w : Seen T) : Type 0 where
    pub times : ℕ
    pub waited : Tried (NotYetSent n places who x) times v w

  -- it waited a number of times, and then this was the answer
  pub record SleptToReceive (n who : ℕ) (v w : Seen T) (r : Option (ℕ × T)) : Type 0 where
    pub last : Seen T
    pub waited : WaitedToReceive n who v last
    pub answer : ReceivedOrOver n who last w r

  pub record SleptToSend (n places who : ℕ) (x : T) (v w : Seen T) (r : Result ℕ (RingSinkFault T)) : Type 0 where
    pub last : Seen T
    pub waited : WaitedToSend n places who x v last
    pub answer : SentOrNot n places who x last w r
