use Rattle.job_model.proofs.Ends.{children_first}
use Rattle.job_model.proofs.laws.children_finish_before_their_parent.Goals as goal

pub returns : goal.returns
returns c = λ shape xs ys who row c end l e. children_first shape xs ys who row c end l e
