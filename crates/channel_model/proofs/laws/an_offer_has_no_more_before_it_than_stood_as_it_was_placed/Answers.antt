use Rattle.channel_model.proofs.Stood.{replay_stood, replay_over, stood_later}
use Rattle.channel_model.proofs.laws.an_offer_has_no_more_before_it_than_stood_as_it_was_placed.Goals as goal

pub returns-clause-few : goal.returns-clause-few
returns-clause-few c = replay_stood

pub returns-clause-over : goal.returns-clause-over
returns-clause-over c = replay_over

pub returns-clause-stays : goal.returns-clause-stays
returns-clause-stays c = stood_later
