use Rattle.channel_model.proofs.OpenWaits.{replay_open}
use Rattle.channel_model.proofs.laws.whoever_stands_has_an_open_wait.Goals as goal

pub returns : goal.returns
returns c = λ shape history l. replay_open history
