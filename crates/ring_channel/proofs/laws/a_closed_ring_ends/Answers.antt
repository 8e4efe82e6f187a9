use Rattle.ring_channel.proofs.InOrder.{ends_closed}
use Rattle.ring_channel.proofs.laws.a_closed_ring_ends.Goals as goal

pub returns : goal.returns
returns g c = ends_closed
