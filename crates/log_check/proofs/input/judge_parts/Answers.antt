use Rattle.script_reader.specs.Scripts.{program_of}
use Rattle.log_check.proofs.Judging.{of_text}
use Rattle.log_check.proofs.input.judge_parts.Goals as goal

pub returns-in-Ok : goal.returns-in-Ok
returns-in-Ok g c = of_text c.judge_by.result c.args.subject (program_of c.in-Ok.script) c.args.script.now c.args.text.now
    c.in-Ok.ensures.spelled c.judge_by.ensures
