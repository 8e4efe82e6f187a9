use Rattle.std.specs.Prelude.{refl}
use Rattle.tally_laws.proofs.laws.tallies_of_examples.Goals as goal

pub returns : goal.returns
returns c = refl
