use Rattle.ring_channel.proofs.Quiet.{still_done}
use Rattle.ring_channel.proofs.laws.who_has_done_stays_so.Goals as goal

pub returns : goal.returns
returns g c = λ n who d steps log more few legal mine has. still_done n who d steps log more few legal mine has
