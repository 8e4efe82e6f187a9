use Rattle.channel_model.proofs.InOrder.{replay_in_order}
use Rattle.channel_model.proofs.laws.those_who_stand_stand_in_order.Goals as goal

pub returns : goal.returns
returns c = replay_in_order
