use Rattle.std.proofs.Common.{subst}
use Rattle.explain_run.specs.Outcomes.{IsMadeOf}
use Rattle.explain_run.proofs.Meaning.{made_of}
use Rattle.explain_run.proofs.top.read_text.Goals as goal

pub returns-in-Ok : goal.returns-in-Ok
returns-in-Ok g c =
    made_of c.text_of.result _ _ _ c.in-Ok.ensures.all c.in-Ok.ensures.drained
    (subst (λ b. IsMadeOf b c.text_of.result) c.as_slice.ensures.value c.text_of.ensures)
