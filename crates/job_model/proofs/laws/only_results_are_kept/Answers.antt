use Rattle.job_model.proofs.Values.{no_other_value}
use Rattle.job_model.proofs.laws.only_results_are_kept.Goals as goal

pub returns : goal.returns
returns c = λ shape history row l. no_other_value shape history row l
