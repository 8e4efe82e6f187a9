use Rattle.channel_model.proofs.OneEntry.{closed_by_one, voided_by_one, endings_of_bound}
use Rattle.channel_model.proofs.laws.a_channel_is_closed_exactly_where_one_entry_closes_it.Goals as goal

pub returns-clause-closed : goal.returns-clause-closed
returns-clause-closed c = closed_by_one

pub returns-clause-voided : goal.returns-clause-voided
returns-clause-voided c = voided_by_one

pub returns-clause-two : goal.returns-clause-two
returns-clause-two c = endings_of_bound
