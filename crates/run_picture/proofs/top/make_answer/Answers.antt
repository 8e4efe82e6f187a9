use Rattle.std.proofs.Common.{sym, ◌∙◌}
use Rattle.run_picture.proofs.Meaning.{made_for}
use Rattle.run_picture.proofs.top.make_answer.Goals as goal

pub returns-in-Ok-Some : goal.returns-in-Ok-Some
returns-in-Ok-Some g c =
    made_for c.read_answer.result _ _ _ _ (sym c.in-Ok-Some.field-0-is ∙ c.in-Ok-Some.ensures) c.read_answer.ensures
