use Rattle.std.proofs.Common.{subst}
use Rattle.run_picture.specs.Outcomes.{IsMadeOf}
use Rattle.run_picture.proofs.Meaning.{made_of}
use Rattle.run_picture.proofs.top.read_answer.Goals as goal

pub returns-in-Ok : goal.returns-in-Ok
returns-in-Ok g c =
    made_of c.answer_of.result c.args.asked _ _ _ c.in-Ok.ensures.all c.in-Ok.ensures.drained
    (subst (λ b. IsMadeOf c.args.asked b c.answer_of.result) c.as_slice.ensures.value c.answer_of.ensures)
