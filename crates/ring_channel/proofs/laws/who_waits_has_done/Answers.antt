use Rattle.ring_channel.proofs.Quiet.{stands_done}
use Rattle.ring_channel.proofs.laws.who_waits_has_done.Goals as goal

pub returns : goal.returns
returns g c = λ n who d log more few legal mine. stands_done n who d log more few legal mine
