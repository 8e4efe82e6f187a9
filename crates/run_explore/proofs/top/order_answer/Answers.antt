use Rattle.script_reader.specs.Scripts.{program_of}
use Rattle.run_explore.proofs.Meaning.{order_tells}
use Rattle.run_explore.proofs.top.order_answer.Goals as goal

pub returns-in-Ok : goal.returns-in-Ok
returns-in-Ok c =
    order_tells (program_of c.args.script.now) c.args.order.now c.in-Ok.report c.answer_by.result c.args.bytes.now c.requires
    c.answer_by.ensures.ending c.answer_by.ensures.text c.in-Ok.ensures.made
