use Rattle.std.proofs.Common.{◌∙◌, sym}
use Rattle.log_check.proofs.EqualNotes.{same_note}
use Rattle.log_check.proofs.same.same_channel_note.Goals as goal

pub returns : goal.returns
returns c is = same_note c.args.left c.args.right (sym c.eq.ensures ∙ is)
