use Rattle.library_examples.specs.Examples.{ReceivedOr}
use Rattle.library_examples.proofs.channels.receive_or.Goals as goal

pub returns-in-Ok-Value-clause-received : goal.returns-in-Ok-Value-clause-received
returns-in-Ok-Value-clause-received g c = ReceivedOr.received c.in-Ok-Value.value
    (rw c.in-Ok-Value.field-0-is at c.in-Ok-Value.ensures.answer)

pub returns-in-Ok-Empty-clause-received : goal.returns-in-Ok-Empty-clause-received
returns-in-Ok-Empty-clause-received g c = ReceivedOr.empty (rw c.in-Ok-Empty.field-0-is at c.in-Ok-Empty.ensures.answer)

pub returns-in-Ok-Closed-clause-received : goal.returns-in-Ok-Closed-clause-received
returns-in-Ok-Closed-clause-received g c = ReceivedOr.closed c.in-Ok-Closed._value
    (rw c.in-Ok-Closed.field-0-is at c.in-Ok-Closed.ensures.answer)
