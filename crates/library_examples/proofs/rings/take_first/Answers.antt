use Rattle.library_examples.proofs.rings.take_first.Goals as goal

pub returns-in-Value-clause-put : goal.returns-in-Value-clause-put
returns-in-Value-clause-put g c = c.in-Value.ensures.answer.1
