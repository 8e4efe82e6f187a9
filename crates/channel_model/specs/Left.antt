-- How many acts may still remove something from the channels of a floor.
use Rattle.std.specs.Prelude.{ℕ, zero, suc, ◌+◌, ◌-◌, ◌*◌, Bool, true, List, length, is_some}
use Rattle.channel_model.specs.declared.acts.Entry.{Entry}
use Rattle.channel_model.specs.declared.standing.Standing.{Standing}
use Rattle.channel_model.specs.Channels.{Shape, State, Channel, places_at}
use Rattle.channel_model.specs.Histories.{replay}
use Rattle.channel_model.specs.Laws.{how_many}

abbrev pub is_any : {X : Type 0} → X → Bool
is_any x = true

abbrev pub is_waiting : Standing → Bool
is_waiting o = is_some o.holder

-- an offer that waits may be admitted and then removed; a place that was not given out may get one
abbrev pub left : ℕ → Channel → ℕ
left places ch = how_many is_any ch.queue + (how_many is_waiting ch.queue + (how_many is_any ch.receivers + 2 * (places - ch.next)))

-- what is left of the first n channels
abbrev pub left_below : Shape → ℕ → State → ℕ
left_below shape zero s = 0
left_below shape (suc n) s = left (places_at shape n) (s.channels n) + left_below shape n s

-- what is left of all channels after a history
abbrev pub left_all : Shape → List Entry → ℕ
left_all shape history = left_below shape (length shape) (replay history)
