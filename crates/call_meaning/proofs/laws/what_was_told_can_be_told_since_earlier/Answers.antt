use Rattle.call_meaning.proofs.Tellings.{true_sooner}
use Rattle.call_meaning.proofs.laws.what_was_told_can_be_told_since_earlier.Goals as goal

pub returns : goal.returns
returns c = true_sooner
