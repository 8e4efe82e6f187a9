use Rattle.co_base.specs.InMemory.{bytes_held}
use Rattle.jisthrom_c.proofs.RunsGo.{says, says_nothing}
use Rattle.jisthrom_c.proofs.jisthrom_run.Goals as goal

pub returns-in-Ok : goal.returns-in-Ok
returns-in-Ok c =
    let ran = c.in-Ok.ensures in
    says ran.0 c.in-Ok.ran.number c.args.script.now (bytes_held c.in-Ok.ran.sink) c.args.report.now c.hand_over.new.report
    c.hand_over.new.size c.hand_over.result ran.1 ran.2 c.hand_over.ensures

pub returns-in-Err : goal.returns-in-Err
returns-in-Err c = says_nothing c.args.script.now c.args.report.now
