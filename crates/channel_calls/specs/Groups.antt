-- What is noted where a wait ends.
use Rattle.std.specs.Prelude.{List, [], ◌∷◌}
use Rattle.co_base.specs.declared.names.WaitId.{WaitId}
use Rattle.channel_model.specs.declared.acts.Act.{Act}
use Rattle.channel_model.specs.declared.acts.Act.TheVariants.{Settle}
use Rattle.channel_model.specs.declared.acts.ChannelNote.TheVariants as note
use Rattle.channel_model.specs.declared.acts.Settled.{Settled}
use Rattle.note_book.specs.declared.book.Item.{Item}
use Rattle.note_book.specs.declared.book.Item.TheVariants as item

-- the note of an act
abbrev pub made_note : Act → Item
made_note act = item.Channel (note.Made act)

-- the wait was settled with this outcome
abbrev pub settle_group : WaitId → Settled → List Item
settle_group w outcome = made_note (Settle w outcome) ∷ []
