use Rattle.call_meaning.proofs.HeardCalls.{told_before_now}
use Rattle.poll_states.proofs.floors.Floors.tell.Goals as goal

pub returns-clause-told : goal.returns-clause-told
returns-clause-told g c = λ who may. told_before_now c.tell.ensures.jobs (c.tell.ensures.looked who may) c.tell.ensures.told
