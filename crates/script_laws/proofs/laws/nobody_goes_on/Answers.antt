use Rattle.script_laws.proofs.NobodyGoesOn.{nobody_goes}
use Rattle.script_laws.proofs.laws.nobody_goes_on.Goals as goal

pub returns : goal.returns
returns c = nobody_goes
