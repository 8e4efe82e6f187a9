use Rattle.ring_channel.proofs.Forgotten.{served}
use Rattle.ring_channel.proofs.laws.nobody_is_forgotten.Goals as goal

pub returns : goal.returns
returns g c = λ n log legal d. served n log legal d
