-- What the calls on a handle do.
use Rattle.std.specs.Prelude.{◌≡◌, ℕ, ◌≤◌, Option, Some, None, Result, Ok, Err}
use Rattle.std.specs.Global.{Global}
use Rattle.std.specs.declared.boxed.Box.{Box}
use Rattle.ring_channel.specs.declared.answers.Closing.{Closing}
use Rattle.ring_channel.specs.declared.answers.ReceiveOutcome.{ReceiveOutcome}
use Rattle.ring_channel.specs.declared.answers.RingFault.{RingFault}
use Rattle.ring_channel.specs.declared.answers.SendOutcome.{SendOutcome}
use Rattle.ring_channel.specs.declared.answers.Wakes.{Wakes}
use Rattle.ring_channel.specs.Looks.{ClosingAnswer}
use Rattle.ring_channel.specs.Outcomes.{CallsBoth, ReceiveAnswer, SendAnswer}
use Rattle.channel_ends.specs.declared.end.End.{End}
use Rattle.channel_ends.specs.declared.faults.SplitFault.{SplitFault}
use Rattle.channel_ends.specs.declared.faults.SplitFault.TheVariants as split
use Rattle.channel_ends.specs.declared.handle.ChannelEnd.{ChannelEnd}
use Rattle.channel_ends.specs.Ends.{ring_of, seen_of, SameEnd, NewEnd, SplitSo}

-- the end that C holds by this handle, if it holds one
abbrev pub end_in : ChannelEnd → Option End
end_in h = h.hidden.end

-- there is one
abbrev pub IsThere : Option End → Type 0
IsThere old = (e : End) × (old ≡ Some e)

-- there was none, and there is none
abbrev pub StaysNone : Option End → Option End → Type 0
StaysNone old new = (old ≡ None) × (new ≡ None)

-- the end that was there is taken out
abbrev pub Opened : Option End → Option (Box End Global) → Type 0
Opened old None = old ≡ None
Opened old (Some b) = old ≡ Some b.value

-- the end that is there did this, and is the same end
pub record Did (does : End → End → Type 0) (old new : Option End) : Type 0 where
  pub before : End
  pub after : End
  pub was : old ≡ Some before
  pub is : new ≡ Some after
  pub same : SameEnd before after
  pub done : does before after

-- it did this, and is gone
pub record Went (does : End → End → Type 0) (old new : Option End) : Type 0 where
  pub before : End
  pub last : End
  pub was : old ≡ Some before
  pub is : new ≡ None
  pub same : SameEnd before last
  pub done : does before last

-- the end was put in; or there was no memory
abbrev pub PutSo : End → Option End → Result (Unit {0}) SplitFault → Type 0
PutSo e new (Ok u) = new ≡ Some e
PutSo e new (Err split.NoEnd) = ⊥
PutSo e new (Err split.InUse) = ⊥
PutSo e new (Err split.NoTag) = ⊥
PutSo e new (Err split.Memory) = new ≡ None

-- ---- the calls, by what they answer

-- the first end of an empty channel was put where there was none; or there was one, or there is no channel
abbrev pub Makes : ℕ → Option End → Option End → Option (Result (Unit {0}) RingFault) → Type 0
Makes slots old new None = IsThere old × (new ≡ old)
Makes slots old new (Some (Ok u)) = (old ≡ None) × (e : End) × (new ≡ Some e) × NewEnd slots (Ok e)
Makes slots old new (Some (Err f)) = StaysNone old new × NewEnd slots (Err f)

-- another end of the same channel was put where there was none
pub record SplitsOff (old new other : Option End) : Type 0 where
  pub before : End
  pub after : End
  pub made : End
  pub was : old ≡ Some before
  pub is : new ≡ Some after
  pub put : other ≡ Some made
  pub split : SplitSo before after (Ok made)

-- the end is of the same ring, and has the same tag
pub record StaysOf (old new : Option End) : Type 0 where
  pub before : End
  pub after : End
  pub was : old ≡ Some before
  pub is : new ≡ Some after
  pub ring : ring_of after ≡ ring_of before
  pub tag : after.tag ≡ before.tag

-- that was done; or why not
abbrev pub Splits : Option End → Option End → Option End → Option End → Result (Unit {0}) SplitFault → Type 0
Splits old new from to (Ok u) = (from ≡ None) × SplitsOff old new to
Splits old new from to (Err split.NoEnd) = StaysNone old new × StaysNone from to
Splits old new from to (Err split.InUse) = IsThere from × (to ≡ from) × (new ≡ old)
Splits old new from to (Err split.NoTag) = StaysNone from to × (e : End) × (old ≡ Some e) × (new ≡ Some e) × (64 ≤ e.next)
Splits old new from to (Err split.Memory) = StaysNone from to × StaysOf old new

-- the item was sent, or the end waits, or why not
abbrev pub Sends : ℕ → Option End → Option End → Option (SendOutcome ℕ) → Type 0
Sends item old new None = StaysNone old new
Sends item old new (Some r) =
    Did (λ e f. SendAnswer (ring_of e).slots (ring_of e).places e.tag item (seen_of e) (seen_of f) r) old new

-- the first item was received, or the end waits, or why not
abbrev pub Receives : Option End → Option End → Option (ReceiveOutcome ℕ) → Type 0
Receives old new None = StaysNone old new
Receives old new (Some r) = Did (λ e f. ReceiveAnswer (ring_of e).slots e.tag (seen_of e) (seen_of f) r) old new

-- it waits no more, and named who may go on in its place
abbrev pub Leaves : Option End → Option End → Option Wakes → Type 0
Leaves old new None = StaysNone old new
Leaves old new (Some r) = Did (λ e f. CallsBoth (ring_of e).slots e.tag (seen_of e) (seen_of f) r) old new

-- the channel was closed, and all who wait were named
abbrev pub Closes : Option End → Option End → Option Closing → Type 0
Closes old new None = StaysNone old new
Closes old new (Some r) = Did (λ e f. ClosingAnswer (ring_of e).slots e.tag (seen_of e) (seen_of f) r) old new

-- it waits no more, named who may go on in its place, and is gone
abbrev pub Frees : Option End → Option End → Option Wakes → Type 0
Frees old new None = StaysNone old new
Frees old new (Some r) = Went (λ e f. CallsBoth (ring_of e).slots e.tag (seen_of e) (seen_of f) r) old new
