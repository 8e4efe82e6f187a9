use Rattle.std.proofs.Common.{sym, ◌∙◌, ap, option_map}
use Rattle.run_explore.specs.Words.{request_of}
use Rattle.run_explore.proofs.Meaning.{made_for}
use Rattle.run_explore.proofs.top.make_answer.Goals as goal

pub returns-in-Ok-Some : goal.returns-in-Ok-Some
returns-in-Ok-Some g c =
    made_for c.read_answer.result _ _ _ _ (ap (option_map request_of) (sym c.in-Ok-Some.field-0-is) ∙ c.in-Ok-Some.ensures)
    c.read_answer.ensures
