use Rattle.channel_fates.proofs.Delivered.{replay_delivered_once}
use Rattle.channel_fates.proofs.laws.an_element_is_delivered_at_most_once.Goals as goal

pub returns : goal.returns
returns c = replay_delivered_once
