use Rattle.poll_states.proofs.Hearing.{heard_of}
use Rattle.poll_states.proofs.floors.Floors.hear.Goals as goal

pub returns-clause-heard : goal.returns-clause-heard
returns-clause-heard g c = λ who may. heard_of c.hear.ensures.channels (c.hear.ensures.looked who may) c.hear.ensures.heard
