use Rattle.library_examples.proofs.rings.put_or_keep.Goals as goal

pub returns-in-Sent-clause-put : goal.returns-in-Sent-clause-put
returns-in-Sent-clause-put g c = c.in-Sent.ensures.answer.1

pub returns-in-Full-clause-back : goal.returns-in-Full-clause-back
returns-in-Full-clause-back g c = c.in-Full.ensures.answer.0

pub returns-in-Closed-clause-back : goal.returns-in-Closed-clause-back
returns-in-Closed-clause-back g c = c.in-Closed.ensures.answer.0

pub returns-in-Spent-clause-back : goal.returns-in-Spent-clause-back
returns-in-Spent-clause-back g c = c.in-Spent.ensures.answer.0

pub returns-in-Passed-clause-back : goal.returns-in-Passed-clause-back
returns-in-Passed-clause-back g c = c.in-Passed.ensures.answer.0
