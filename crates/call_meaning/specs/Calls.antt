-- What a call leaves: what it told is noted, the acts of these notes are the entries that it added, and all of it was so.
use Rattle.std.specs.Prelude.{◌≡◌, ℕ, true, List, [], ◌∷◌, ◌++◌}
use Rattle.channel_model.specs.declared.acts.Entry.{Entry}
use Rattle.channel_model.specs.Histories.{acts_of}
use Rattle.channel_model.specs.Floors.{Floor as ChannelFloor, Added as AddedToChannels}
use Rattle.job_model.specs.declared.acts.JobAct.{JobAct}
use Rattle.job_model.specs.declared.acts.JobAct.TheVariants.{Attach}
use Rattle.job_model.specs.declared.acts.JobEntry.{JobEntry}
use Rattle.job_model.specs.Histories.{acts_of as job_acts_of}
use Rattle.job_model.specs.Floors.{Floor, Added}
use Rattle.channel_model.specs.Channels.{Shape}
use Rattle.note_book.specs.declared.book.Item.{Item}
use Rattle.note_book.specs.declared.book.Item.TheVariants as item
use Rattle.note_book.specs.Items.{channel_acts_in, job_acts_in}
use Rattle.co_base.specs.Orders.{Side}
use Rattle.call_meaning.specs.Telling.{Told, note, on_channels, on_jobs, items_in}
use Rattle.call_meaning.specs.Orders.{IsAt, WasSoAlong}
use Rattle.call_meaning.specs.Stories.{Moment, IsTrue, story_of}
use Rattle.call_meaning.specs.Seen.{SeenOnChannels, SeenOnJobs, SeenOnBoth}

-- how far both floors are seen
abbrev pub seen_by : ChannelFloor → Floor → Moment
seen_by c j = record { channels = c.seen; jobs = j.seen }

-- what who told in a call was so, from the first moment on and up to the second, at which the book was this one before the call
abbrev pub WasSo : Shape → ℕ → List Item → Moment → Moment → List Told → Type 0
WasSo shape who items old new told =
    acts_of who old.channels ≡ channel_acts_in items → job_acts_of who old.jobs ≡ job_acts_in items
    → IsTrue (story_of shape who new) items old told

-- this is of the channels
abbrev pub IsOfChannels : Told → Type 0
IsOfChannels (note (item.Channel n)) = Unit {0}
IsOfChannels (note (item.Job n)) = ⊥
IsOfChannels (on_channels fact) = Unit {0}
IsOfChannels (on_jobs fact) = ⊥

-- this is of the Jobs
abbrev pub IsOfJobs : Told → Type 0
IsOfJobs (note (item.Channel n)) = ⊥
IsOfJobs (note (item.Job n)) = Unit {0}
IsOfJobs (on_channels fact) = ⊥
IsOfJobs (on_jobs fact) = Unit {0}

-- each of them is
abbrev pub AreAll : (Told → Type 0) → List Told → Type 0
AreAll holds [] = Unit {0}
AreAll holds (x ∷ told) = holds x × AreAll holds told

-- a call on channels alone: it was so whatever the history of Jobs beside it
pub record ToldOnChannels (old new : SeenOnChannels) (told : List Told) : Type 0 where
  pub who : new.who ≡ old.who
  pub appended : new.items ≡ old.items ++ items_in told
  pub added : AddedToChannels old.who (channel_acts_in (items_in told)) old.floor new.floor
  pub no_jobs : job_acts_in (items_in told) ≡ []
  pub of_channels : AreAll IsOfChannels told
  pub was_so : (book : List Item) (jobs : List JobEntry)
      → WasSo old.floor.shape old.who book (record { channels = old.floor.seen; jobs = jobs })
      (record { channels = new.floor.seen; jobs = jobs }) told

-- a call on Jobs alone, which claimed these rows: it was so whatever the history of channels beside it
pub record ToldOnJobs (rows : List ℕ) (old new : SeenOnJobs) (told : List Told) : Type 0 where
  pub who : new.who ≡ old.who
  pub appended : new.items ≡ old.items ++ items_in told
  pub added : Added old.who (job_acts_in (items_in told)) rows old.floor new.floor
  pub no_channels : channel_acts_in (items_in told) ≡ []
  pub of_jobs : AreAll IsOfJobs told
  pub was_so : (book : List Item) (shape : Shape) (channels : List Entry)
      → WasSo shape old.who book (record { channels = channels; jobs = old.floor.seen })
      (record { channels = channels; jobs = new.floor.seen }) told

-- a call on both, which claimed these rows
pub record ToldOnBoth (rows : List ℕ) (old new : SeenOnBoth) (told : List Told) : Type 0 where
  pub who : new.who ≡ old.who
  pub appended : new.items ≡ old.items ++ items_in told
  pub channels : AddedToChannels old.who (channel_acts_in (items_in told)) old.channels new.channels
  pub jobs : Added old.who (job_acts_in (items_in told)) rows old.jobs new.jobs
  pub was_so : (book : List Item)
      → WasSo old.channels.shape old.who book (seen_by old.channels old.jobs) (seen_by new.channels new.jobs) told
  -- and along the order of both histories, if there is one
  pub along : old.jobs.joint ≡ true → (book : List Item) → acts_of old.who old.channels.seen ≡ channel_acts_in book
      → job_acts_of old.who old.jobs.seen ≡ job_acts_in book → (point : List Side) → IsAt old.who old.channels old.jobs book point
      → WasSoAlong old.channels.shape old.who book new.channels new.jobs told point

-- ---- the rows that acts attach

abbrev pub row_in : JobAct → List ℕ
row_in (Attach parent row kind tag cancelled) = row ∷ []
row_in other = []

unfoldable pub rows_in : List JobAct → List ℕ
rows_in [] = []
rows_in (act ∷ acts) = row_in act ++ rows_in acts
