-- What passes have seen of one another.
use Rattle.std.specs.Prelude.{◌≡◌, ℕ, List}
use Rattle.joined_words.specs.Seen as steps
use Rattle.channel_model.specs.declared.acts.Entry.{Entry}
use Rattle.channel_model.specs.Histories.{acts_of}
use Rattle.cell_words.specs.Seen.{Seen}

-- the acts of one tag are the same
abbrev pub SameOf : ℕ → List Entry → List Entry → Type 0
SameOf t old new = acts_of t new ≡ acts_of t old

-- a pass that had seen `old` met one that had seen `other`: its history goes on, and begins with what the other had seen
abbrev pub MeetAnswer : Seen → Seen → Seen → Type 0
MeetAnswer = steps.MeetAnswer SameOf

-- a pass that had seen `old` took in one that had seen `other`, with its callers
abbrev pub EndAnswer : Seen → Seen → Seen → Type 0
EndAnswer = steps.EndAnswer SameOf
