use Rattle.channel_model.proofs.GoneForGood.{below_lasts, none_lasts}
use Rattle.channel_model.proofs.laws.who_is_gone_never_stands_again.Goals as goal

pub returns-clause-below : goal.returns-clause-below
returns-clause-below c = below_lasts

pub returns-clause-here : goal.returns-clause-here
returns-clause-here c = none_lasts
