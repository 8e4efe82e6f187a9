use Rattle.job_words.proofs.TableHoldsJobs.{holds_jobs, part_holds_jobs}
use Rattle.job_words.proofs.laws.a_forest_has_one_history.Goals as goal

pub returns-clause-alone : goal.returns-clause-alone
returns-clause-alone c size s = holds_jobs size s

pub returns-clause-part : goal.returns-clause-part
returns-clause-part c key s = part_holds_jobs key s
