-- A rendezvous over a ring: a sender that waits until its value was claimed.
use Rattle.std.specs.Prelude.{◌≡◌, ℕ, Bool, true, false, Option, Some, None, Ok, Err}
use Rattle.ring_channel.specs.declared.act.RingSide.TheVariants.{Send}
use Rattle.ring_channel.specs.Seen.{Seen}
use Rattle.ring_channel.specs.Counters.{TakenAnswer, ClosedAnswer}
use Rattle.ring_channel.specs.Looks.{WaitAnswer, AllAnswer}
use Rattle.ring_channel.specs.Outcomes.{Tried}
use Rattle.ring_bridge.specs.declared.handing.HandedOver.{HandedOver}
use Rattle.ring_bridge.specs.declared.handing.HandedOver.TheVariants as handed
use Rattle.ring_bridge.specs.Leaves.{LeftBy}
use Rattle.ring_bridge.specs.Waits.{SleptToSend}

module _ {T : Type 0} where
  -- The value of the place p was not claimed, and the ring was open. Then it stood, and looked once more, and slept if it was still not
  -- claimed; or it did not have to stand
  pub data NotClaimed (n who p : ℕ) (v w : Seen T) : Type 0 where
    stood : (a b c : Seen T) (taken : Bool) → TakenAnswer n who p v a false → ClosedAnswer n who a b false
        → WaitAnswer n who Send b c true → TakenAnswer n who p c w taken → NotClaimed n who p v w
    went_on : (a b : Seen T) → TakenAnswer n who p v a false → ClosedAnswer n who a b false → WaitAnswer n who Send b w false
        → NotClaimed n who p v w

  -- how the wait ended: the value was claimed; or it was not, and then the ring was closed. Then it waits no more
  abbrev pub AwaitEnds : ℕ → ℕ → ℕ → Seen T → Seen T → Bool → Type 0
  AwaitEnds n who p v w true = (u : Seen T) × TakenAnswer n who p v u true × LeftBy n who Send u w
  AwaitEnds n who p v w false =
      (u : Seen T) × (x : Seen T) × TakenAnswer n who p v u false × ClosedAnswer n who u x true × LeftBy n who Send x w

  -- one turn
  abbrev pub AwaitTurn : ℕ → ℕ → ℕ → Seen T → Seen T → Option Bool → Type 0
  AwaitTurn n who p v w None = NotClaimed n who p v w
  AwaitTurn n who p v w (Some taken) = AwaitEnds n who p v w taken

  -- so many turns without an end, and then this one
  pub record AwaitAnswer (n who p : ℕ) (v w : Seen T) (taken : Bool) : Type 0 where
    pub times : ℕ
    pub last : Seen T
    pub tried : Tried (NotClaimed n who p) times v last
    pub ends : AwaitEnds n who p last w taken

  -- the value was put at this place, all who wait for room or to be received were named, and the wait ended so
  pub record PutAndAwaited (n places who : ℕ) (x : T) (v w : Seen T) (p : ℕ) (taken : Bool) : Type 0 where
    pub put : Seen T
    pub named : Seen T
    pub mask : ℕ
    pub sent : SleptToSend n places who x v put (Ok p)
    pub all : AllAnswer n who Send put named mask
    pub awaited : AwaitAnswer n who p named w taken

  -- what became of x
  abbrev pub HandAnswer : ℕ → ℕ → ℕ → T → Seen T → Seen T → HandedOver T → Type 0
  HandAnswer n places who x v w (handed.Taken p) = PutAndAwaited n places who x v w p true
  HandAnswer n places who x v w (handed.Left p) = PutAndAwaited n places who x v w p false
  HandAnswer n places who x v w (handed.Refused f) = SleptToSend n places who x v w (Err f)
