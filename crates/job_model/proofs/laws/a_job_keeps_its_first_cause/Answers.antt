use Rattle.job_model.proofs.Causes.{cause_is_first}
use Rattle.job_model.proofs.laws.a_job_keeps_its_first_cause.Goals as goal

pub returns : goal.returns
returns c = λ shape history row l. cause_is_first shape history row l
