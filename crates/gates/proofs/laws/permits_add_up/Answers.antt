use Rattle.gates.proofs.GateLaws.{holds_gate}
use Rattle.gates.proofs.laws.permits_add_up.Goals as goal

pub returns : goal.returns
returns c = holds_gate
