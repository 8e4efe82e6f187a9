-- One order of the entries of both histories, along which what is told held.
use Rattle.std.specs.Prelude.{◌≡◌, ℕ, ◌≤◌, true, List, [], ◌∷◌, ◌++◌, length, take}
use mathlib.Core.List.{IsPrefix}
use Rattle.co_base.specs.Orders.{Side, channel_entries_in, job_entries_in}
use Rattle.channel_model.specs.Channels.{Shape}
use Rattle.channel_model.specs.Histories.{replay, acts_of}
use Rattle.channel_model.specs.Floors.{Floor as ChannelFloor, Looked as LookedOnChannels}
use Rattle.job_model.specs.Histories.{replay as replay_jobs, acts_of as job_acts_of}
use Rattle.job_model.specs.Floors.{Floor}
use Rattle.note_book.specs.declared.book.Item.{Item}
use Rattle.note_book.specs.Items.{channel_acts_in, job_acts_in}
use Rattle.call_meaning.specs.Telling.{Told, items_in}
use Rattle.call_meaning.specs.Facts.{ToldHolds}
use Rattle.call_meaning.specs.Stories.{Moment, Story, with_told, story_of}

-- the order has a place for each entry of both histories, and no other
pub record IsOrderOf (now : Moment) (order : List Side) : Type 0 where
  pub channels : channel_entries_in order ≡ length now.channels
  pub jobs : job_entries_in order ≡ length now.jobs

-- a point of an order is a beginning of it: how far the two histories were when just these entries had come
abbrev pub moment_at : Moment → List Side → Moment
moment_at now point =
    record { channels = take (channel_entries_in point) now.channels; jobs = take (job_entries_in point) now.jobs }

-- this was so at the point, which is not before the earlier one; at it the coroutine had made just the acts of these items
pub record IsSoAlong (s : Story) (order : List Side) (items : List Item) (earlier : List Side) (told : Told) (point : List Side)
    : Type 0 where
  pub not_before : IsPrefix earlier point
  pub not_after : IsPrefix point order
  pub channel_acts : acts_of s.tag (moment_at s.now point).channels ≡ channel_acts_in items
  pub job_acts : job_acts_of s.tag (moment_at s.now point).jobs ≡ job_acts_in items
  pub holds : ToldHolds s.shape told (replay (moment_at s.now point).channels) (replay_jobs (moment_at s.now point).jobs)

-- all that is told was so, at points of the order that do not go back; the items are those noted before
unfoldable pub IsTrueAlong : Story → List Side → List Item → List Side → List Told → Type 0
IsTrueAlong s order items earlier [] = Unit {0}
IsTrueAlong s order items earlier (told ∷ more) =
    (point : List Side) × IsSoAlong s order items earlier told point × IsTrueAlong s order (with_told told items) point more

-- ---- two floors of one caller

-- the floor of Jobs has heard all that was seen on that of channels, and the order counts what each has seen
pub record HasHeard (c : ChannelFloor) (j : Floor) : Type 0 where
  pub order : IsPrefix c.order j.order
  pub channels : channel_entries_in c.order ≡ length c.seen
  pub jobs : job_entries_in j.order ≡ length j.seen

-- the floor of channels has heard all that was seen on that of Jobs, and the order counts what each has seen
pub record HasTold (c : ChannelFloor) (j : Floor) : Type 0 where
  pub order : IsPrefix j.order c.order
  pub channels : channel_entries_in c.order ≡ length c.seen
  pub jobs : job_entries_in j.order ≡ length j.seen

-- the floor of Jobs has heard, if there is one order
abbrev pub HeardIfJoint : ChannelFloor → Floor → Type 0
HeardIfJoint c j = j.joint ≡ true → HasHeard c j

-- the floor of channels was told, if there is one
abbrev pub ToldIfJoint : ChannelFloor → Floor → Type 0
ToldIfJoint c j = j.joint ≡ true → HasTold c j

-- the floor of channels was told so, and no entry was made
pub record IsToldOfJobs (who : ℕ) (old new : ChannelFloor) (jobs : Floor) : Type 0 where
  pub looked : LookedOnChannels who old new
  pub told : ToldIfJoint new jobs

-- both floors have seen all up to this point, and at it the caller had made just the acts of these items
pub record IsAt (who : ℕ) (c : ChannelFloor) (j : Floor) (items : List Item) (point : List Side) : Type 0 where
  pub channels : IsPrefix point c.order
  pub jobs : IsPrefix point j.order
  pub few_channels : channel_entries_in point ≤ length c.seen
  pub few_jobs : job_entries_in point ≤ length j.seen
  pub channel_acts : acts_of who (take (channel_entries_in point) c.seen) ≡ channel_acts_in items
  pub job_acts : job_acts_of who (take (job_entries_in point) j.seen) ≡ job_acts_in items

-- what who told was so at points of the order up to one that both floors have seen; the first is not before this one
pub record WasSoAlong (shape : Shape) (who : ℕ) (items : List Item) (c : ChannelFloor) (j : Floor) (told : List Told)
    (from : List Side) : Type 0 where
  pub to : List Side
  pub not_before : IsPrefix from to
  pub at : IsAt who c j (items ++ items_in told) to
  pub is_true : IsTrueAlong (story_of shape who (record { channels = c.seen; jobs = j.seen })) to items from told
