use Rattle.channel_model.proofs.OneEntry.{resolutions_of_bound, settlements_of_bound}
use Rattle.channel_model.proofs.laws.a_wait_is_resolved_and_settled_at_most_once.Goals as goal

pub returns-clause-resolved : goal.returns-clause-resolved
returns-clause-resolved c = resolutions_of_bound

pub returns-clause-settled : goal.returns-clause-settled
returns-clause-settled c = settlements_of_bound
