use Rattle.run_laws.proofs.ClosedAtOnce.{closes_always}
use Rattle.run_laws.proofs.laws.a_done_channel_is_closed_at_once.Goals as goal

pub returns : goal.returns
returns c = closes_always
