use Rattle.library_examples.proofs.rings.send_or_keep.Goals as goal

pub returns-in-Waits-clause-back : goal.returns-in-Waits-clause-back
returns-in-Waits-clause-back g c = c.in-Waits.ensures.answer.ends.1.0

pub returns-in-Closed-clause-back : goal.returns-in-Closed-clause-back
returns-in-Closed-clause-back g c = c.in-Closed.ensures.answer.ends.1.0

pub returns-in-Spent-clause-back : goal.returns-in-Spent-clause-back
returns-in-Spent-clause-back g c = c.in-Spent.ensures.answer.ends.1.0

pub returns-in-Passed-clause-back : goal.returns-in-Passed-clause-back
returns-in-Passed-clause-back g c = c.in-Passed.ensures.answer.ends.0
