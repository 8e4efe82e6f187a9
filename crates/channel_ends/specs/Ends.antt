-- What an end is of, and what becomes of it.
use Rattle.std.specs.Prelude.{◌≡◌, ℕ, ◌+◌, ◌<◌, ◌≤◌, ◌^◌, [], ◌∷◌, Result, Ok, Err}
use Rattle.std.specs.Arc.{arc_value}
use Rattle.ring_channel.specs.declared.answers.RingFault.{RingFault}
use Rattle.ring_channel.specs.declared.answers.RingFault.TheVariants as fault
use Rattle.ring_channel.specs.declared.ring.Ring.{Ring}
use Rattle.ring_channel.specs.Passes.{IsEmpty, SamePass, seen_by, tag_of}
use Rattle.ring_channel.specs.Seen.{Seen}
use Rattle.channel_ends.specs.declared.end.End.{End}
use Rattle.channel_ends.specs.declared.faults.SplitFault.{SplitFault}
use Rattle.channel_ends.specs.declared.faults.SplitFault.TheVariants as split

-- the ring of which it is an end
abbrev pub ring_of : End → Ring ℕ
ring_of e = arc_value e.ring

-- what it has seen of the ring
abbrev pub seen_of : End → Seen ℕ
seen_of e = seen_by e.pass

-- the same end, which may have seen more
abbrev pub SameEnd : End → End → Type 0
SameEnd old new = (ring_of new ≡ ring_of old) × (new.tag ≡ old.tag) × (new.next ≡ old.next) × SamePass old.pass new.pass

-- the first end of an empty channel; or why there is none
abbrev pub NewEnd : ℕ → Result End RingFault → Type 0
NewEnd slots (Ok e) = IsEmpty slots (2 ^ 62) (ring_of e) e.pass × (1 ≤ slots) × (slots ≤ 1048576) × (e.tag ≡ 0) × (e.next ≡ 1)
NewEnd slots (Err fault.NoSlots) = slots ≡ 0
NewEnd slots (Err fault.TooManySlots) = 1048576 < slots
NewEnd slots (Err fault.Memory) = (1 ≤ slots) × (slots ≤ 1048576)

-- another end of the same ring, of the next tag; or why there is none
abbrev pub SplitSo : End → End → Result End SplitFault → Type 0
SplitSo old new (Ok e) =
    (ring_of new ≡ ring_of old) × (ring_of e ≡ ring_of old) × (old.next < 64) × (new.tag ≡ old.tag) × (new.next ≡ old.next + 1)
    × (e.tag ≡ old.next) × (e.next ≡ 64) × (tag_of e.pass ≡ old.next) × (tag_of new.pass ≡ tag_of old.pass)
SplitSo old new (Err split.NoEnd) = ⊥
SplitSo old new (Err split.InUse) = ⊥
SplitSo old new (Err split.NoTag) = (64 ≤ old.next) × (new ≡ old)
SplitSo old new (Err split.Memory) = (old.next < 64) × (new ≡ old)
