use Rattle.job_model.proofs.RowMarks.{each_once}
use Rattle.job_model.proofs.laws.each_act_is_done_with_a_row_at_most_once.Goals as goal

pub returns : goal.returns
returns c = λ shape history row l. each_once shape history row l
