use Rattle.ring_channel.proofs.Quiet.{has_done}
use Rattle.ring_channel.proofs.laws.who_looked_has_done.Goals as goal

pub returns : goal.returns
returns g c = λ n who d called steps log more few how legal mine. has_done n who d called steps log more few how legal mine
