-- What holds of the elements of a hub between any two steps.
use Rattle.std.specs.Prelude.{ℕ, ◌≤◌}
use Rattle.atomic_table.specs.Table.{State}
use Rattle.worded.specs.declared.view.View.{View}
use Rattle.channel_model.specs.declared.acts.Entry.{Entry}
use Rattle.channel_model.specs.Channels.{Shape}
use Rattle.channel_model.specs.Histories.{acts_in}
use Rattle.channel_fates.specs.OneFate.{IsAtMostOneFate, deliveries_of}
use Rattle.word_rules.specs.declared.layout.Layout.{Layout}
use Rattle.cell_words.specs.Tables.{HoldsChannels}

-- in the legal history that the words are those of, at most one of received, undelivered, dropped, spurned and withdrawn applies to the
-- element of each place, and it was given to a receiver at most once
pub record HoldsElementsOnce (shape : Shape) (s : State Entry (View Entry Layout)) : Type 0 where
  pub channels : HoldsChannels shape s
  pub one_fate : (c p : ℕ) → IsAtMostOneFate c p (acts_in channels.entries)
  pub delivered_once : (c p : ℕ) → deliveries_of c p (acts_in channels.entries) ≤ 1
