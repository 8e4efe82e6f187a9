use Rattle.script_laws.proofs.NothingOwed.{nothing_is_owed}
use Rattle.script_laws.proofs.laws.nothing_is_owed_at_the_end.Goals as goal

pub returns : goal.returns
returns c = nothing_is_owed
