use Rattle.job_model.proofs.Short.{attached_within, legal_is_short}
use Rattle.job_model.proofs.laws.a_legal_history_is_short.Goals as goal

pub returns-clause-within : goal.returns-clause-within
returns-clause-within c = λ shape history row s l a. attached_within shape history row s l a

pub returns-clause-short : goal.returns-clause-short
returns-clause-short c = λ shape history s l. legal_is_short shape history s l
