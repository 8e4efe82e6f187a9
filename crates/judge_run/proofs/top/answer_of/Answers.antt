use Rattle.judge_run.specs.declared.outcome.Said.TheVariants as said
use Rattle.judge_run.proofs.Meaning.{judges_of}
use Rattle.judge_run.proofs.top.answer_of.Goals as goal

pub returns-in-Ok-Some : goal.returns-in-Ok-Some
returns-in-Ok-Some c =
    judges_of (said.OfScript c.in-Ok-Some.judged.verdict) c.told.result c.args.bytes.now (rw c.in-Ok-Some.field-0-is at c.in-Ok-Some.ensures)
    c.told.ensures
