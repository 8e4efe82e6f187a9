use Rattle.job_model.proofs.Families.{replay_families}
use Rattle.job_model.proofs.laws.families_are_in_order.Goals as goal

pub returns : goal.returns
returns c = λ shape history l. replay_families shape history l
