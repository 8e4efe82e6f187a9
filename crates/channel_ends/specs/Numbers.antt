-- Answers as numbers, and whom to wake as masks.
use Rattle.std.specs.Prelude.{◌≡◌, ℕ, ◌<◌, ◌^◌, Option, Some, None, Result, Ok, Err, MatchBool}
use Rattle.ring_channel.specs.declared.answers.Called.{Called}
use Rattle.ring_channel.specs.declared.answers.Called.TheVariants as called
use Rattle.ring_channel.specs.declared.answers.Closing.{Closing}
use Rattle.ring_channel.specs.declared.answers.ReceiveOutcome.{ReceiveOutcome}
use Rattle.ring_channel.specs.declared.answers.ReceiveOutcome.TheVariants as receives
use Rattle.ring_channel.specs.declared.answers.RingFault.{RingFault}
use Rattle.ring_channel.specs.declared.answers.RingFault.TheVariants as fault
use Rattle.ring_channel.specs.declared.answers.SendOutcome.{SendOutcome}
use Rattle.ring_channel.specs.declared.answers.SendOutcome.TheVariants as sends
use Rattle.ring_channel.specs.declared.answers.Wakes.{Wakes}
use Rattle.channel_ends.specs.declared.faults.SplitFault.{SplitFault}
use Rattle.channel_ends.specs.declared.faults.SplitFault.TheVariants as split
use Rattle.channel_ends.specs.declared.numbers.ChannelWakes.{ChannelWakes}

-- the mask of those who are called: of one its bit, and of all their mask
abbrev pub IsMask : Called → ℕ → Type 0
IsMask called.Nobody m = m ≡ 0
IsMask (called.One t) m = t < 64 → m ≡ 2 ^ t
IsMask (called.All all) m = m ≡ all

-- nobody is to be woken
abbrev pub NoWakes : ChannelWakes → Type 0
NoWakes w = (w.receivers ≡ 0) × (w.senders ≡ 0)

-- those who are called on both sides
abbrev pub AreMasks : Wakes → ChannelWakes → Type 0
AreMasks c w = IsMask c.receivers w.receivers × IsMask c.senders w.senders

-- those who wait to send, and are called
abbrev pub OfSenders : Called → ChannelWakes → Type 0
OfSenders c w = (w.receivers ≡ 0) × IsMask c w.senders

-- those who wait to receive, and are called
abbrev pub OfReceivers : Called → ChannelWakes → Type 0
OfReceivers c w = IsMask c w.receivers × (w.senders ≡ 0)

-- ---- the numbers of answers, and whom they name

abbrev pub NumberedSend : Option (SendOutcome ℕ) → ChannelWakes → ℕ → Type 0
NumberedSend None w n = (n ≡ 5) × NoWakes w
NumberedSend (Some (sends.Sent p c)) w n = (n ≡ 0) × AreMasks c w
NumberedSend (Some (sends.Waits x)) w n = (n ≡ 1) × NoWakes w
NumberedSend (Some (sends.Closed x c)) w n = (n ≡ 2) × OfSenders c w
NumberedSend (Some (sends.Spent x c)) w n = (n ≡ 3) × OfSenders c w
NumberedSend (Some (sends.Passed x)) w n = (n ≡ 4) × NoWakes w

-- and which item was received
abbrev pub NumberedReceive : Option (ReceiveOutcome ℕ) → ℕ → ℕ → ChannelWakes → ℕ → Type 0
NumberedReceive None old new w n = (n ≡ 5) × (new ≡ old) × NoWakes w
NumberedReceive (Some (receives.Received p x c)) old new w n = (n ≡ 0) × (new ≡ x) × AreMasks c w
NumberedReceive (Some receives.Waits) old new w n = (n ≡ 1) × (new ≡ old) × NoWakes w
NumberedReceive (Some (receives.Closed c)) old new w n = (n ≡ 2) × (new ≡ old) × OfReceivers c w
NumberedReceive (Some receives.Passed) old new w n = (n ≡ 4) × (new ≡ old) × NoWakes w

-- it left, or there is no end
abbrev pub NumberedLeave : Option Wakes → ChannelWakes → ℕ → Type 0
NumberedLeave None w n = (n ≡ 5) × NoWakes w
NumberedLeave (Some c) w n = (n ≡ 0) × AreMasks c w

-- it closed the channel, or it was closed before, or there is no end
abbrev pub NumberedClose : Option Closing → ChannelWakes → ℕ → Type 0
NumberedClose None w n = (n ≡ 5) × NoWakes w
NumberedClose (Some c) w n = MatchBool c.closed (n ≡ 0) (n ≡ 2) × (w.receivers ≡ c.receivers) × (w.senders ≡ c.senders)

-- a channel was made, or why not
abbrev pub number_of_new : Option (Result (Unit {0}) RingFault) → ℕ
number_of_new None = 6
number_of_new (Some (Ok u)) = 0
number_of_new (Some (Err fault.NoSlots)) = 8
number_of_new (Some (Err fault.TooManySlots)) = 8
number_of_new (Some (Err fault.Memory)) = 7

-- an end was split off, or why not
abbrev pub number_of_split : Result (Unit {0}) SplitFault → ℕ
number_of_split (Ok u) = 0
number_of_split (Err split.NoEnd) = 5
number_of_split (Err split.InUse) = 6
number_of_split (Err split.NoTag) = 9
number_of_split (Err split.Memory) = 7
