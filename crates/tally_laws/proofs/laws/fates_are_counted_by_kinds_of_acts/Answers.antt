use Rattle.tally_laws.proofs.Declared.{declared_fates}
use Rattle.tally_laws.proofs.laws.fates_are_counted_by_kinds_of_acts.Goals as goal

pub returns : goal.returns
returns c = declared_fates
