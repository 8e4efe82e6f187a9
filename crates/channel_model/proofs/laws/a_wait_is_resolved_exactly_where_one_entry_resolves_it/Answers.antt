use Rattle.channel_model.proofs.OneEntry.{resolved_by_one, settled_by_one}
use Rattle.channel_model.proofs.laws.a_wait_is_resolved_exactly_where_one_entry_resolves_it.Goals as goal

pub returns-clause-resolved : goal.returns-clause-resolved
returns-clause-resolved c = resolved_by_one

pub returns-clause-settled : goal.returns-clause-settled
returns-clause-settled c = settled_by_one
