use Rattle.cell_calls.proofs.KeepingTells.{admitted_of, admit_giving}
use Rattle.cell_calls.proofs.keeping.admit.Goals as goal

pub returns-clause-answer : goal.returns-clause-answer
returns-clause-answer c = admitted_of c.args.hub.now c.args.who c.args.pass.now c.admit_below.new.pass c.args.c c.args.mark
    c.requires.can.caller c.admit_below.result c.admit_below.ensures.admitted

pub returns-clause-giving : goal.returns-clause-giving
returns-clause-giving c = admit_giving c.args.hub.now c.args.who c.args.pass.now c.admit_below.new.pass c.args.c c.args.mark
    c.admit_below.result c.admit_below.ensures.admitted
