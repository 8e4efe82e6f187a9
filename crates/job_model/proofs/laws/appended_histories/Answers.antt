use Rattle.job_model.proofs.Histories.{replay-append, Legal-append}
use Rattle.job_model.proofs.laws.appended_histories.Goals as goal

pub returns-clause-replayed : goal.returns-clause-replayed
returns-clause-replayed c = λ xs ys. replay-append xs ys

pub returns-clause-legal : goal.returns-clause-legal
returns-clause-legal c = λ shape xs ys. Legal-append shape xs ys
