use Rattle.job_model.proofs.Reasons.{reason_holds_on}
use Rattle.job_model.proofs.laws.a_reason_goes_on_to_hold.Goals as goal

pub returns : goal.returns
returns c = λ shape xs ys who row reason l h. reason_holds_on shape xs ys who row reason l h
