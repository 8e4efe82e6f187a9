use Rattle.std.specs.Bool.{Decides}
use Rattle.std.proofs.Common.{sym, ap, subst, ◌∙◌}
use Rattle.channel_model.specs.Histories.{replay}
use Rattle.call_meaning.specs.Facts.{ChannelNoteHolds}
use Rattle.one_thread_floor.specs.ListFloors.{floor_of}
use Rattle.history_check.specs.Steps.{shows_full}
use Rattle.history_check.proofs.NoteTests.{full_note}
use Rattle.history_check.proofs.notes.note_holds.Goals as goal

pub returns-in-Full : goal.returns-in-Full
returns-in-Full c =
    let s = replay (floor_of c.args.floor.now).seen in
    let shown = c.snapshot-in-Full.result in
    subst (λ n. Decides c.shows_full.result (ChannelNoteHolds c.args.kinds.now n s)) (sym c.in-Full.is)
    (full_note c.args.kinds.now c.shows_full.result shown s c.in-Full.c c.snapshot-in-Full.ensures
    (c.shows_full.ensures ∙ ap (λ k. shows_full k.0 shown) c.kind_of-kind.ensures))
