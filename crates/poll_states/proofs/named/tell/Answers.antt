use Rattle.call_meaning.proofs.HeardCalls.{told_before_now}
use Rattle.poll_states.proofs.named.tell.Goals as goal

pub returns-clause-told : goal.returns-clause-told
returns-clause-told g c = λ may. told_before_now c.tell.ensures.jobs (c.tell.ensures.looked _ may) c.tell.ensures.told
