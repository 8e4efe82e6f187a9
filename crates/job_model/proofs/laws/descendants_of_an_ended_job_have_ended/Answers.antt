use Rattle.job_model.proofs.Ends.{descendants_ended}
use Rattle.job_model.proofs.laws.descendants_of_an_ended_job_have_ended.Goals as goal

pub returns : goal.returns
returns c = λ shape history row d l e b. descendants_ended shape history row d l e b
