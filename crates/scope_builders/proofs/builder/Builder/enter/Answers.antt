use Rattle.scope_builders.proofs.Starts.{enter_answer}
use Rattle.scope_builders.proofs.builder.Builder.enter.Goals as goal

pub returns-clause-answer : goal.returns-clause-answer
returns-clause-answer g c = enter_answer _ _ _ _ _ c.attach.ensures.answer
