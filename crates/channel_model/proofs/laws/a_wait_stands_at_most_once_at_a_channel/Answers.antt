use Rattle.channel_model.proofs.Apart.{replay_once}
use Rattle.channel_model.proofs.laws.a_wait_stands_at_most_once_at_a_channel.Goals as goal

pub returns : goal.returns
returns c = replay_once
