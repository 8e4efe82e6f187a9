use Rattle.judge_run.specs.declared.outcome.Said.TheVariants as said
use Rattle.judge_run.proofs.Meaning.{judged_of, judges_of}
use Rattle.judge_run.proofs.top.history_answer.Goals as goal

pub returns-in-Ok : goal.returns-in-Ok
returns-in-Ok c = judged_of c.in-Ok.input c.args.bytes.now c.judged.result c.in-Ok.ensures.ok c.judged.ensures

pub returns-in-Err-Fault : goal.returns-in-Err-Fault
returns-in-Err-Fault c =
    judges_of (said.Fault c.in-Err-Fault.fault) c.told.result c.args.bytes.now
    (rw c.in-Err-Fault.field-0-is at c.in-Err-Fault.ensures.err) c.told.ensures

pub returns-in-Err-NoItem : goal.returns-in-Err-NoItem
returns-in-Err-NoItem c =
    judges_of (said.NoItem c.in-Err-NoItem.line) c.told-in-Err-NoItem.result c.args.bytes.now
    (rw c.in-Err-NoItem.field-0-is at c.in-Err-NoItem.ensures.err) c.told-in-Err-NoItem.ensures
