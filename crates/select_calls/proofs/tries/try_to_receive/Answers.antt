use Rattle.select_calls.proofs.ClausesTried.{received, empty, receive_closed}
use Rattle.select_calls.proofs.tries.try_to_receive.Goals as goal

pub returns-in-Ok-Value-clause-answer : goal.returns-in-Ok-Value-clause-answer
returns-in-Ok-Value-clause-answer g c = received (rw c.in-Ok-Value.field-0-is at c.in-Ok-Value.ensures.answer)

pub returns-in-Ok-Empty-clause-answer : goal.returns-in-Ok-Empty-clause-answer
returns-in-Ok-Empty-clause-answer g c = empty (rw c.in-Ok-Empty.field-0-is at c.in-Ok-Empty.ensures.answer)

pub returns-in-Ok-Closed-clause-answer : goal.returns-in-Ok-Closed-clause-answer
returns-in-Ok-Closed-clause-answer g c = receive_closed (rw c.in-Ok-Closed.field-0-is at c.in-Ok-Closed.ensures.answer)
