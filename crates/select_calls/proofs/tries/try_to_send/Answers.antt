use Rattle.select_calls.proofs.ClausesTried.{sent, full, send_closed, no_place}
use Rattle.select_calls.proofs.tries.try_to_send.Goals as goal

pub returns-in-Ok-Sent-clause-answer : goal.returns-in-Ok-Sent-clause-answer
returns-in-Ok-Sent-clause-answer g c = sent (rw c.in-Ok-Sent.field-0-is at c.in-Ok-Sent.ensures.answer)

pub returns-in-Ok-Full-clause-answer : goal.returns-in-Ok-Full-clause-answer
returns-in-Ok-Full-clause-answer g c = full (rw c.in-Ok-Full.field-0-is at c.in-Ok-Full.ensures.answer)

pub returns-in-Ok-Closed-clause-answer : goal.returns-in-Ok-Closed-clause-answer
returns-in-Ok-Closed-clause-answer g c = send_closed (rw c.in-Ok-Closed.field-0-is at c.in-Ok-Closed.ensures.answer)

pub returns-in-Ok-Spent-clause-answer : goal.returns-in-Ok-Spent-clause-answer
returns-in-Ok-Spent-clause-answer g c = no_place c.args.value (rw c.in-Ok-Spent.field-0-is at c.in-Ok-Spent.ensures.answer)
