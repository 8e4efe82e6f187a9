use Rattle.job_model.proofs.Ends.{by_entries}
use Rattle.job_model.proofs.laws.a_row_is_what_its_entries_say.Goals as goal

pub returns : goal.returns
returns c = λ shape history row l. by_entries shape history row l
