use Rattle.call_meaning.proofs.Tellings.{true_later}
use Rattle.call_meaning.proofs.laws.what_was_told_can_be_told_of_later.Goals as goal

pub returns : goal.returns
returns c = true_later
