-- What holds of a hub's table between any two steps.
use Rattle.atomic_table.specs.Table.{State}
use Rattle.worded.specs.Histories.{HasOneHistory}
use Rattle.worded.specs.declared.view.View.{View}
use Rattle.channel_model.specs.declared.acts.Entry.{Entry}
use Rattle.channel_model.specs.Histories.{Legal, acts_of}
use Rattle.word_rules.specs.declared.layout.Layout.{Layout}
use Rattle.word_rules.specs.Words.{Fits, word_count, maker}
use Rattle.cell_words.specs.Tables.{HoldsChannels}
use Rattle.worded.proofs.TagsHeld.{are_seats}
use Rattle.cell_words.proofs.ActsOfTags.{same_acts, no_acts}

pub holds_channels : (layout : Layout) (s : State Entry (View Entry Layout))
    → HasOneHistory (Legal layout.kinds) (Fits layout.kinds) maker (word_count layout.kinds) s → HoldsChannels layout.kinds s
holds_channels layout s r = record {
  entries = r.log;
  legal = r.is_legal;
  words = λ i lt. r.words_fit i lt;
  passes = are_seats (Legal layout.kinds) (Fits layout.kinds) maker (word_count layout.kinds) (λ log. log) acts_of (λ xs ys p. p) same_acts
      no_acts s r;
}
