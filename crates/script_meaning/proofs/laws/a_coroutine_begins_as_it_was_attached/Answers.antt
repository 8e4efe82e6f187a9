use Rattle.script_meaning.proofs.FirstNotes.{begins_as_attached}
use Rattle.script_meaning.proofs.laws.a_coroutine_begins_as_it_was_attached.Goals as goal

pub returns : goal.returns
returns c = begins_as_attached
