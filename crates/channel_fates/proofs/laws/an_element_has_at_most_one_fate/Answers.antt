use Rattle.channel_fates.proofs.AtMostOne.{replay_one_fate}
use Rattle.channel_fates.proofs.laws.an_element_has_at_most_one_fate.Goals as goal

pub returns : goal.returns
returns c = replay_one_fate
