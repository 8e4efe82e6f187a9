use Rattle.job_model.proofs.Needed.{step_made, step_refused, steps_made, steps_refused}
use Rattle.job_model.proofs.laws.a_step_is_made_exactly_where_its_need_holds.Goals as goal

pub returns-clause-made : goal.returns-clause-made
returns-clause-made c = λ shape tree e. step_made shape tree e

pub returns-clause-refused : goal.returns-clause-refused
returns-clause-refused c = λ shape tree e. step_refused shape tree e

pub returns-clause-legal : goal.returns-clause-legal
returns-clause-legal c = λ shape history. steps_made shape history

pub returns-clause-illegal : goal.returns-clause-illegal
returns-clause-illegal c = λ shape history. steps_refused shape history
