use Rattle.channel_model.proofs.PlacedFull.{placed_full}
use Rattle.channel_model.proofs.laws.a_send_that_waits_was_placed_in_a_full_channel.Goals as goal

pub returns : goal.returns
returns c = placed_full
