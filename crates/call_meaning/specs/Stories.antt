-- What was told was so: each thing at a moment at which the coroutine had made just the acts that it notes
-- before.
use Rattle.std.specs.Prelude.{◌≡◌, ℕ, List, [], ◌∷◌, ◌++◌}
use mathlib.Core.List.{IsPrefix}
use Rattle.channel_model.specs.declared.acts.Entry.{Entry}
use Rattle.channel_model.specs.Channels.{Shape}
use Rattle.channel_model.specs.Histories.{replay, acts_of}
use Rattle.job_model.specs.declared.acts.JobEntry.{JobEntry}
use Rattle.job_model.specs.Histories.{replay as replay_jobs, acts_of as job_acts_of}
use Rattle.note_book.specs.declared.book.Item.{Item}
use Rattle.note_book.specs.Items.{channel_acts_in, job_acts_in}
use Rattle.call_meaning.specs.Telling.{Told, note, on_channels, on_jobs}
use Rattle.call_meaning.specs.Facts.{ToldHolds}

-- how far the two histories are
pub record Moment : Type 0 where
  pub channels : List Entry
  pub jobs : List JobEntry

abbrev pub beginning : Moment
beginning = record { channels = []; jobs = [] }

-- the one moment is not before the other
pub record IsBy (early late : Moment) : Type 0 where
  pub channels : IsPrefix early.channels late.channels
  pub jobs : IsPrefix early.jobs late.jobs

-- a coroutine, the channels that it calls, and how far the two histories are that hold its entries
pub record Story : Type 0 where
  pub shape : Shape
  pub tag : ℕ
  pub now : Moment

-- this was so at the moment, which is not before the earlier one and not after now; at it the coroutine had made just
-- the acts of these items
pub record IsSo (s : Story) (items : List Item) (earlier : Moment) (told : Told) (at : Moment) : Type 0 where
  pub not_before : IsBy earlier at
  pub not_after : IsBy at s.now
  pub channel_acts : acts_of s.tag at.channels ≡ channel_acts_in items
  pub job_acts : job_acts_of s.tag at.jobs ≡ job_acts_in items
  pub holds : ToldHolds s.shape told (replay at.channels) (replay_jobs at.jobs)

abbrev pub with_told : Told → List Item → List Item
with_told (note i) items = items ++ i ∷ []
with_told (on_channels fact) items = items
with_told (on_jobs fact) items = items

-- all that is told was so, by moments that do not go back, the first not before this one; the items are those noted
-- before
unfoldable pub IsTrue : Story → List Item → Moment → List Told → Type 0
IsTrue s items earlier [] = Unit {0}
IsTrue s items earlier (told ∷ more) =
    (at : Moment) × IsSo s items earlier told at × IsTrue s (with_told told items) at more

-- the story of this coroutine up to now
abbrev pub story_of : Shape → ℕ → Moment → Story
story_of shape k now = record { shape = shape; tag = k; now = now }
