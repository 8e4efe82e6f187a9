-- A select's wait, as one sees it who places a clause of it.
use Rattle.std.specs.Prelude.{◌≡◌, ℕ, Bool, true, false, List, [], Option, Some, None}
use Rattle.co_base.specs.declared.names.WaitId.{WaitId}
use Rattle.channel_model.specs.declared.acts.Entry.{Entry}
use Rattle.channel_model.specs.declared.floor.Registered.{Registered}
use Rattle.channel_model.specs.declared.floor.Registered.TheVariants as registered
use Rattle.channel_model.specs.declared.floor.WaitState.TheVariants as state
use Rattle.channel_model.specs.Channels.{Shape, State}
use Rattle.channel_model.specs.Histories.{replay}
use Rattle.channel_model.specs.Floors.{Floor, AtMoment}
use Rattle.channel_model.specs.Answers.{IsOwnWait, state_of_wait}
use Rattle.channel_model.specs.Registers.{IsMainResolved}
use Rattle.word_rules.specs.Words.{IsCell}

-- the select's wait, if it has one, is who's, and began at a cell
abbrev pub IsOwnMain : Shape → ℕ → Option WaitId → List Entry → Type 0
IsOwnMain shape who None log = Unit {0}
IsOwnMain shape who (Some w) log = IsCell shape w.channel w.place × IsOwnWait who ((replay log).waits w)

-- it stands, if the select has one
abbrev pub IsMainStanding : Option WaitId → State → Type 0
IsMainStanding None s = Unit {0}
IsMainStanding (Some w) s = state_of_wait (s.waits w) ≡ Some state.Standing

-- whether it was resolved
abbrev pub MainAnswer : Option WaitId → Floor → Bool → Type 0
MainAnswer main floor true = IsMainResolved main floor
MainAnswer main floor false = IsMainStanding main (replay floor.seen)

-- the channel was looked at, and the clause placed, only after the wait was seen standing in this call
abbrev pub StandingFirst : ℕ → Option WaitId → Floor → Floor → Registered → Type 0
StandingFirst who main old new (registered.Stands place) = AtMoment who [] old new (IsMainStanding main)
StandingFirst who main old new (registered.Partner place) = AtMoment who [] old new (IsMainStanding main)
StandingFirst who main old new (registered.Closed x) = AtMoment who [] old new (IsMainStanding main)
StandingFirst who main old new registered.Spent = AtMoment who [] old new (IsMainStanding main)
StandingFirst who main old new registered.Resolved = Unit {0}
