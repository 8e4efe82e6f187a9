-- What each number that a call on an end gives says of the end, and of whom it names.
use Rattle.std.specs.Prelude.{◌≡◌, ℕ, Option, Result}
use Rattle.ring_channel.specs.declared.answers.Closing.{Closing}
use Rattle.ring_channel.specs.declared.answers.ReceiveOutcome.{ReceiveOutcome}
use Rattle.ring_channel.specs.declared.answers.RingFault.{RingFault}
use Rattle.ring_channel.specs.declared.answers.SendOutcome.{SendOutcome}
use Rattle.ring_channel.specs.declared.answers.Wakes.{Wakes}
use Rattle.channel_ends.specs.declared.end.End.{End}
use Rattle.channel_ends.specs.declared.faults.SplitFault.{SplitFault}
use Rattle.channel_ends.specs.declared.numbers.ChannelWakes.{ChannelWakes}
use Rattle.channel_ends.specs.Handles.{Makes, Splits, Sends, Receives, Leaves, Closes, Frees}
use Rattle.channel_ends.specs.Numbers.{number_of_new, number_of_split, NumberedSend, NumberedReceive, NumberedLeave, NumberedClose}

-- a channel was made, or why not
abbrev pub MakesInC : ℕ → Option End → Option End → ℕ → Type 0
MakesInC slots old new n = (r : Option (Result (Unit {0}) RingFault)) × Makes slots old new r × (n ≡ number_of_new r)

-- an end was split off, or why not
abbrev pub SplitsInC : Option End → Option End → Option End → Option End → ℕ → Type 0
SplitsInC old new from to n = (r : Result (Unit {0}) SplitFault) × Splits old new from to r × (n ≡ number_of_split r)

-- an item was sent, or why not
abbrev pub SendsInC : ℕ → Option End → Option End → ChannelWakes → ℕ → Type 0
SendsInC item old new w n = (r : Option (SendOutcome ℕ)) × Sends item old new r × NumberedSend r w n

-- an item was received, or why not
abbrev pub ReceivesInC : Option End → Option End → ℕ → ℕ → ChannelWakes → ℕ → Type 0
ReceivesInC old new from to w n = (r : Option (ReceiveOutcome ℕ)) × Receives old new r × NumberedReceive r from to w n

-- an end waits no more
abbrev pub LeavesInC : Option End → Option End → ChannelWakes → ℕ → Type 0
LeavesInC old new w n = (r : Option Wakes) × Leaves old new r × NumberedLeave r w n

-- the channel was closed
abbrev pub ClosesInC : Option End → Option End → ChannelWakes → ℕ → Type 0
ClosesInC old new w n = (r : Option Closing) × Closes old new r × NumberedClose r w n

-- an end is gone
abbrev pub FreesInC : Option End → Option End → ChannelWakes → ℕ → Type 0
FreesInC old new w n = (r : Option Wakes) × Frees old new r × NumberedLeave r w n
