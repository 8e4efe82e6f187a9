-- What the sends and receives answer that may wait.
use Rattle.std.specs.Prelude.{◌≡◌, ℕ, ◌+◌, ◌-◌, ◌^◌, true, false, Option, Some, None, Result, Ok, Err}
use Rattle.ring_channel.specs.declared.act.RingSide.TheVariants.{Receive, Send}
use Rattle.ring_channel.specs.declared.answers.RingSent.TheVariants as sent
use Rattle.ring_channel.specs.declared.answers.RingGot.TheVariants as got
use Rattle.ring_channel.specs.declared.answers.Wakes.{Wakes}
use Rattle.ring_channel.specs.declared.answers.SendOutcome.{SendOutcome}
use Rattle.ring_channel.specs.declared.answers.SendOutcome.TheVariants as sends
use Rattle.ring_channel.specs.declared.answers.ReceiveOutcome.{ReceiveOutcome}
use Rattle.ring_channel.specs.declared.answers.ReceiveOutcome.TheVariants as receives
use Rattle.ring_channel.specs.Seen.{Seen}
use Rattle.ring_channel.specs.Answers.{SentAnswer, GotAnswer}
use Rattle.ring_channel.specs.Looks.{CallAnswer, WaitAnswer}

module _ {T : Type 0} where
  -- it missed so many times, one after the other
  pub data Tried (Missed : Seen T → Seen T → Type 0) : ℕ → Seen T → Seen T → Type 0 where
    first : (v : Seen T) → Tried Missed 0 v v
    again : (k : ℕ) (v u w : Seen T) → Tried Missed k v u → Missed u w → Tried Missed (k + 1) v w

  -- those who wait to receive were looked for, and then those who wait to send
  pub record CallsBoth (n who : ℕ) (v w : Seen T) (wakes : Wakes) : Type 0 where
    pub between : Seen T
    pub receivers : CallAnswer n who Receive v between wakes.receivers
    pub senders : CallAnswer n who Send between w wakes.senders

  -- ---- to receive: of a ring of n slots, by who, whose pass had seen v and now w

  -- another received the first value; or there was none, and once it stood there was one, or the ring was closed
  pub data MissedValue (n who : ℕ) (v w : Seen T) : Type 0 where
    passed : GotAnswer n who v w got.Passed → MissedValue n who v w
    came : (u : Seen T) → GotAnswer n who v u got.Nothing → WaitAnswer n who Receive u w false → MissedValue n who v w

  -- Where it did not miss. It received a value, and looked for those who may go on by that; or there was none, and it waits; or the ring
  -- is over, and it looked for others who wait to receive
  abbrev pub ReceivesSo : ℕ → ℕ → Seen T → Seen T → ReceiveOutcome T → Type 0
  ReceivesSo n who v w (receives.Received p x wakes) = (u : Seen T) × GotAnswer n who v u (got.Value p x) × CallsBoth n who u w wakes
  ReceivesSo n who v w receives.Waits = (u : Seen T) × GotAnswer n who v u got.Nothing × WaitAnswer n who Receive u w true
  ReceivesSo n who v w (receives.Closed called) = (u : Seen T) × GotAnswer n who v u got.Closed × CallAnswer n who Receive u w called
  ReceivesSo n who v w receives.Passed = ⊥

  -- one try
  abbrev pub ReceiveTry : ℕ → ℕ → Seen T → Seen T → Option (ReceiveOutcome T) → Type 0
  ReceiveTry n who v w None = MissedValue n who v w
  ReceiveTry n who v w (Some r) = ReceivesSo n who v w r

  -- after so many tries that missed
  abbrev pub ReceivesAfter : ℕ → ℕ → ℕ → Seen T → Seen T → ReceiveOutcome T → Type 0
  ReceivesAfter n who times v w (receives.Received p x wakes) = ReceivesSo n who v w (receives.Received p x wakes)
  ReceivesAfter n who times v w receives.Waits = ReceivesSo n who v w receives.Waits
  ReceivesAfter n who times v w (receives.Closed called) = ReceivesSo n who v w (receives.Closed called)
  ReceivesAfter n who times v w receives.Passed = (times ≡ 2 ^ 64 - 1) × (w ≡ v)

  pub record ReceiveAnswer (n who : ℕ) (v w : Seen T) (r : ReceiveOutcome T) : Type 0 where
    pub times : ℕ
    pub last : Seen T
    pub tried : Tried (MissedValue n who) times v last
    pub ends : ReceivesAfter n who times last w r

  -- ---- to send x: of a ring of n slots that lives for so many places

  -- another put a value first, or closed the ring; or it was full, and once it stood there was room, or the ring was closed
  pub data MissedRoom (n places who : ℕ) (x : T) (v w : Seen T) : Type 0 where
    passed : SentAnswer n places who x v w (sent.Passed x) → MissedRoom n places who x v w
    came : (u : Seen T) → SentAnswer n places who x v u (sent.Full x) → WaitAnswer n who Send u w false → MissedRoom n places who x v w

  -- If it did not miss. The value was put, and it looked for those who may go on by that; or there was no room, and it waits; or the ring
  -- is closed, or spent, and it looked for others who wait to send. A value that was not put comes back
  abbrev pub SendsSo : ℕ → ℕ → ℕ → T → Seen T → Seen T → SendOutcome T → Type 0
  SendsSo n places who x v w (sends.Sent p wakes) =
      (u : Seen T) × SentAnswer n places who x v u (sent.Sent p) × CallsBoth n who u w wakes
  SendsSo n places who x v w (sends.Waits y) = (u : Seen T) × SentAnswer n places who x v u (sent.Full y) × WaitAnswer n who Send u w true
  SendsSo n places who x v w (sends.Closed y called) =
      (u : Seen T) × SentAnswer n places who x v u (sent.Closed y) × CallAnswer n who Send u w called
  SendsSo n places who x v w (sends.Spent y called) =
      (u : Seen T) × SentAnswer n places who x v u (sent.Spent y) × CallAnswer n who Send u w called
  SendsSo n places who x v w (sends.Passed y) = ⊥

  -- one try
  abbrev pub SendTry : ℕ → ℕ → ℕ → T → Seen T → Seen T → Result (SendOutcome T) T → Type 0
  SendTry n places who x v w (Ok r) = SendsSo n places who x v w r
  SendTry n places who x v w (Err y) = (y ≡ x) × MissedRoom n places who x v w

  -- after so many tries that missed
  abbrev pub SendsAfter : ℕ → ℕ → ℕ → ℕ → T → Seen T → Seen T → SendOutcome T → Type 0
  SendsAfter n places who times x v w (sends.Sent p wakes) = SendsSo n places who x v w (sends.Sent p wakes)
  SendsAfter n places who times x v w (sends.Waits y) = SendsSo n places who x v w (sends.Waits y)
  SendsAfter n places who times x v w (sends.Closed y called) = SendsSo n places who x v w (sends.Closed y called)
  SendsAfter n places who times x v w (sends.Spent y called) = SendsSo n places who x v w (sends.Spent y called)
  SendsAfter n places who times x v w (sends.Passed y) = (y ≡ x) × (times ≡ 2 ^ 64 - 1) × (w ≡ v)

  pub record SendAnswer (n places who : ℕ) (x : T) (v w : Seen T) (r : SendOutcome T) : Type 0 where
    pub times : ℕ
    pub last : Seen T
    pub tried : Tried (MissedRoom n places who x) times v last
    pub ends : SendsAfter n places who times x last w r
