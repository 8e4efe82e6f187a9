-- The elements of a hub have at most one fate between any two steps.
use Rattle.atomic_table.specs.Table.{State}
use Rattle.worded.specs.Histories.{HasOneHistory}
use Rattle.worded.specs.declared.view.View.{View}
use Rattle.channel_model.specs.declared.acts.Entry.{Entry}
use Rattle.channel_model.specs.Histories.{Legal}
use Rattle.channel_fates.proofs.AtMostOne.{replay_one_fate}
use Rattle.channel_fates.proofs.Delivered.{replay_delivered_once}
use Rattle.word_rules.specs.declared.layout.Layout.{Layout}
use Rattle.word_rules.specs.Words.{Fits, word_count, maker}
use Rattle.cell_words.specs.Tables.{HoldsChannels}
use Rattle.cell_words.proofs.TableHoldsChannels.{holds_channels}
use Rattle.word_seats.specs.HubFates.{HoldsElementsOnce}

pub holds_once : (layout : Layout) (s : State Entry (View Entry Layout))
    → HasOneHistory (Legal layout.kinds) (Fits layout.kinds) maker (word_count layout.kinds) s → HoldsElementsOnce layout.kinds s
holds_once layout s r =
    let one : HoldsChannels layout.kinds s = holds_channels layout s r in
    record {
      channels = one;
      one_fate = λ c p. replay_one_fate layout.kinds one.entries c p one.legal;
      delivered_once = λ c p. replay_delivered_once layout.kinds one.entries c p one.legal;
    }
