-- What holds of a hub's part of the table between any two steps.
use Rattle.std.specs.Prelude.{ℕ, ◌<◌, List, slice_index}
use Rattle.atomic_table.specs.Table.{State}
use Rattle.worded.specs.Histories.{AreSeatsOf}
use Rattle.worded.specs.declared.view.View.{View}
use Rattle.channel_model.specs.declared.acts.Entry.{Entry}
use Rattle.channel_model.specs.Channels.{Shape}
use Rattle.channel_model.specs.Histories.{Legal, acts_of}
use Rattle.word_rules.specs.declared.layout.Layout.{Layout}
use Rattle.word_rules.specs.Words.{Fits, word_count}

-- The words are those of one legal history; each pass has seen a beginning of it, and all entries of its own tags; no two passes have
-- one tag, and a tag that no pass has made no entry
pub record HoldsChannels (shape : Shape) (s : State Entry (View Entry Layout)) : Type 0 where
  pub entries : List Entry
  pub legal : Legal shape entries
  pub words : (i : ℕ) → i < word_count shape → Fits shape entries i (slice_index s.words i)
  pub passes : AreSeatsOf (λ (log : List Entry). log) acts_of entries s.views
