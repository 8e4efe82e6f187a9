use Rattle.channel_fates.proofs.HeldFates.{replay_held}
use Rattle.channel_fates.proofs.laws.an_element_without_a_fate_is_held.Goals as goal

pub returns : goal.returns
returns c = replay_held
