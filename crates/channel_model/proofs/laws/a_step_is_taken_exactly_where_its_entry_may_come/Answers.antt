use Rattle.channel_model.proofs.Stepped.{step_taken, steps_taken}
use Rattle.channel_model.proofs.laws.a_step_is_taken_exactly_where_its_entry_may_come.Goals as goal

pub returns-clause-one : goal.returns-clause-one
returns-clause-one c = step_taken

pub returns-clause-all : goal.returns-clause-all
returns-clause-all c = steps_taken
