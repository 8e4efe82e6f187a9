-- What the withdrawal of a select's wait tells, by the floor's answer.
use Rattle.std.specs.Prelude.{◌≡◌, ℕ, false, [], ◌∷◌, ◌++◌, Ok, refl}
use Rattle.co_base.specs.declared.names.WaitId.{WaitId}
use Rattle.channel_model.specs.declared.acts.ChannelNote.TheVariants.{Late}
use Rattle.channel_model.specs.declared.acts.Why.TheVariants as why
use Rattle.channel_model.specs.declared.floor.Withdrawn.TheVariants as withdraws
use Rattle.channel_model.specs.Floors.{AtStep}
use Rattle.channel_model.specs.Answers.{WithdrawAnswer}
use Rattle.channel_model.proofs.Spans.{prefix_self}
use Rattle.note_book.specs.declared.book.Item.TheVariants as item
use Rattle.call_meaning.specs.Facts.{ChannelNoteHolds}
use Rattle.call_meaning.specs.Seen.{SeenOnChannels}
use Rattle.call_meaning.proofs.ChannelsHeard.{told_met}
use Rattle.channel_calls.proofs.Roomed.{IsRoomed, roomed}
use Rattle.select_calls.specs.Parts.{RevokedAnswer}

pub late_now : {n : ℕ} {w : WaitId} {a b d : SeenOnChannels} → IsRoomed n a b
    → WithdrawAnswer a.who w why.Revoked b.floor d.floor withdraws.Late
    → d.who ≡ a.who → d.items ≡ b.items ++ item.Channel (Late w) ∷ [] → RevokedAnswer w a d (Ok false)
late_now {n} {w} {a} {b} {d} h m e f =
    let so : AtStep b.floor d.floor (ChannelNoteHolds b.floor.shape (Late w)) =
    record { moment = d.floor.seen; after = m.0.longer; before = prefix_self d.floor.seen; holds = m.1 } in
    roomed h (told_met (Late w) refl m.0 so e f)
