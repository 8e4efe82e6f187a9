use Rattle.job_model.proofs.ActStates.{entry_takes, entry_leaves}
use Rattle.job_model.proofs.laws.states_go_as_each_act_says.Goals as goal

pub returns-clause-own : goal.returns-clause-own
returns-clause-own c = λ shape xs e l. entry_takes shape xs e l

pub returns-clause-other : goal.returns-clause-other
returns-clause-other c = λ shape xs e row l n. entry_leaves xs e row n
