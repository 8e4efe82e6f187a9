use Rattle.script_reader.specs.Scripts.{program_of}
use Rattle.log_check.proofs.Judging.{of_spelled}
use Rattle.log_check.proofs.made.make_log.Goals as goal

pub returns-in-Ok : goal.returns-in-Ok
returns-in-Ok g c = of_spelled c.log_of.result (program_of c.in-Ok.script) c.args.bytes.now c.in-Ok.ensures.spelled c.log_of.ensures
