use Rattle.std.proofs.Common.{refl}
use Rattle.scope_builders.proofs.Closings.{closed_now, closed_before}
use Rattle.scope_builders.proofs.done_channels.close_first.Goals as goal

pub returns-in-Ok-clause-closed : goal.returns-in-Ok-clause-closed
returns-in-Ok-clause-closed g c = closed_now c.in-Ok.ensures.answer refl c.note.ensures.items

pub returns-in-Err-clause-closed : goal.returns-in-Err-clause-closed
returns-in-Err-clause-closed g c = closed_before c.in-Err.ensures.answer refl c.note-in-Err.ensures.items
