use Rattle.job_model.proofs.States.{states_go_on, ended_stays}
use Rattle.job_model.proofs.laws.states_go_forward.Goals as goal

pub returns-clause-forward : goal.returns-clause-forward
returns-clause-forward c = λ shape xs ys row l. states_go_on shape xs ys row l

pub returns-clause-ended : goal.returns-clause-ended
returns-clause-ended c = λ shape xs ys row l e. ended_stays shape xs ys row l e
