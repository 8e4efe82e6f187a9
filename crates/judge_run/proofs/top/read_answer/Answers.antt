use Rattle.std.proofs.Common.{subst}
use Rattle.judge_run.specs.Outcomes.{IsMadeOf}
use Rattle.judge_run.proofs.Meaning.{made_of}
use Rattle.judge_run.proofs.top.read_answer.Goals as goal

pub returns-in-Ok : goal.returns-in-Ok
returns-in-Ok g c =
    made_of c.args.request c.answer_to.result _ _ _ c.in-Ok.ensures.all c.in-Ok.ensures.drained
    (subst (λ b. IsMadeOf c.args.request b c.answer_to.result) c.as_slice.ensures.value c.answer_to.ensures)
