use Rattle.call_meaning.proofs.Tellings.{true_then}
use Rattle.call_meaning.proofs.laws.what_was_told_goes_on.Goals as goal

pub returns : goal.returns
returns c = true_then
