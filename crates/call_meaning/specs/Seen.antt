-- What a caller sees between two of its calls: who it is, how far it has seen the floors that it calls, and what stands in its book.
use Rattle.std.specs.Prelude.{ℕ, List}
use Rattle.channel_model.specs.Channels.{State}
use Rattle.channel_model.specs.Histories.{replay as replay_channels}
use Rattle.channel_model.specs.Floors.{Floor as ChannelFloor, MayCall as MayCallChannels}
use Rattle.job_model.specs.Trees.{Tree}
use Rattle.job_model.specs.Histories.{replay}
use Rattle.job_model.specs.Floors.{Floor, MayCall}
use Rattle.note_book.specs.declared.book.Item.{Item}

-- who calls channels alone
pub record SeenOnChannels : Type 0 where
  pub who : ℕ
  pub floor : ChannelFloor
  pub items : List Item

-- who calls Jobs alone
pub record SeenOnJobs : Type 0 where
  pub who : ℕ
  pub floor : Floor
  pub items : List Item

-- who calls both
pub record SeenOnBoth : Type 0 where
  pub who : ℕ
  pub channels : ChannelFloor
  pub jobs : Floor
  pub items : List Item

-- ---- what a tag sees of floors and of its book, through these views

abbrev pub seen_channels : {C B : Type 0} → (C → ChannelFloor) → (B → List Item) → ℕ → C → B → SeenOnChannels
seen_channels view items who channels book = record { who = who; floor = view channels; items = items book }

abbrev pub seen_jobs : {J B : Type 0} → (J → Floor) → (B → List Item) → ℕ → J → B → SeenOnJobs
seen_jobs view items who jobs book = record { who = who; floor = view jobs; items = items book }

abbrev pub seen_both : {C J B : Type 0} → (C → ChannelFloor) → (J → Floor) → (B → List Item) → ℕ → C → J → B → SeenOnBoth
seen_both channels_view jobs_view items who channels jobs book =
    record { who = who; channels = channels_view channels; jobs = jobs_view jobs; items = items book }

-- ---- a part of what is seen

abbrev pub channels_of : SeenOnBoth → SeenOnChannels
channels_of seen = record { who = seen.who; floor = seen.channels; items = seen.items }

abbrev pub jobs_of : SeenOnBoth → SeenOnJobs
jobs_of seen = record { who = seen.who; floor = seen.jobs; items = seen.items }

-- the channels as their history has left them
abbrev pub state_in : SeenOnChannels → State
state_in seen = replay_channels seen.floor.seen

-- the Jobs as theirs has
abbrev pub tree_in : SeenOnJobs → Tree
tree_in seen = replay seen.floor.seen

-- ---- what a call asks

-- the caller may call, and the channel is one of the floor
abbrev pub MayCallChannel : ℕ → SeenOnChannels → Type 0
MayCallChannel c seen = MayCallChannels seen.who c seen.floor

-- the caller may call, and the row was seen attached
abbrev pub MayCallJob : ℕ → SeenOnJobs → Type 0
MayCallJob row seen = MayCall seen.who row seen.floor
