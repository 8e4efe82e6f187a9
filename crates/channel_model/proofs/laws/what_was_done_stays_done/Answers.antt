use Rattle.channel_model.proofs.Later.{given_later, closed_later, voided_later, resolved_later, settled_later}
use Rattle.channel_model.proofs.laws.what_was_done_stays_done.Goals as goal

pub returns-clause-given : goal.returns-clause-given
returns-clause-given c = given_later

pub returns-clause-closed : goal.returns-clause-closed
returns-clause-closed c = closed_later

pub returns-clause-voided : goal.returns-clause-voided
returns-clause-voided c = voided_later

pub returns-clause-resolved : goal.returns-clause-resolved
returns-clause-resolved c = resolved_later

pub returns-clause-settled : goal.returns-clause-settled
returns-clause-settled c = settled_later
