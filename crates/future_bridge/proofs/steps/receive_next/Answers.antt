use Rattle.cell_calls.specs.HubFloors.{hub_floor}
use Rattle.future_bridge.proofs.OwnPasses.{own_then, legal_of}
use Rattle.future_bridge.proofs.GainsGo.{taken_gains, waiting_gains, closed_gains, spent_gains}
use Rattle.future_bridge.proofs.steps.receive_next.Goals as goal

pub admit_all-requires-clause-own : goal.admit_all-requires-clause-own
admit_all-requires-clause-own c = own_then c.args.hub.now c.args.pass.now c.receive.new.pass c.args.who c.requires.own c.in-Taken.ensures.of
    c.in-Taken.ensures.answer.made.same.callers

pub returns-in-Taken-clause-stepped : goal.returns-in-Taken-clause-stepped
returns-in-Taken-clause-stepped c =
    let own = own_then c.args.hub.now c.args.pass.now c.receive.new.pass c.args.who c.requires.own c.in-Taken.ensures.of
    c.in-Taken.ensures.answer.made.same.callers in
    taken_gains c.args.who c.args.c c.in-Taken._place c.in-Taken.value c.in-Taken._sender (hub_floor c.args.hub.now c.args.pass.now)
    (hub_floor c.args.hub.now c.receive.new.pass) (hub_floor c.args.hub.now c.admit_all.new.pass)
    (legal_of c.args.hub.now c.receive.new.pass c.args.who own) c.in-Taken.ensures.answer c.admit_all.ensures.admits

pub returns-in-Waiting-clause-own : goal.returns-in-Waiting-clause-own
returns-in-Waiting-clause-own c = own_then c.args.hub.now c.args.pass.now c.receive.new.pass c.args.who c.requires.own
    c.in-Waiting.ensures.of c.in-Waiting.ensures.answer.same.callers

pub returns-in-Waiting-clause-stepped : goal.returns-in-Waiting-clause-stepped
returns-in-Waiting-clause-stepped c =
    let own = own_then c.args.hub.now c.args.pass.now c.receive.new.pass c.args.who c.requires.own c.in-Waiting.ensures.of
    c.in-Waiting.ensures.answer.same.callers in
    waiting_gains c.args.who c.args.c c.in-Waiting.place (hub_floor c.args.hub.now c.args.pass.now)
    (hub_floor c.args.hub.now c.receive.new.pass) (legal_of c.args.hub.now c.receive.new.pass c.args.who own)
    c.in-Waiting.ensures.answer

pub returns-in-Closed-clause-own : goal.returns-in-Closed-clause-own
returns-in-Closed-clause-own c = own_then c.args.hub.now c.args.pass.now c.receive.new.pass c.args.who c.requires.own c.in-Closed.ensures.of
    c.in-Closed.ensures.answer.0.looked.same.callers

pub returns-in-Closed-clause-stepped : goal.returns-in-Closed-clause-stepped
returns-in-Closed-clause-stepped c = closed_gains c.args.who c.args.c c.in-Closed.v (hub_floor c.args.hub.now c.args.pass.now)
    (hub_floor c.args.hub.now c.receive.new.pass) c.in-Closed.ensures.answer

pub returns-in-Spent-clause-own : goal.returns-in-Spent-clause-own
returns-in-Spent-clause-own c = own_then c.args.hub.now c.args.pass.now c.receive.new.pass c.args.who c.requires.own c.in-Spent.ensures.of
    c.in-Spent.ensures.answer.0.same.callers

pub returns-in-Spent-clause-stepped : goal.returns-in-Spent-clause-stepped
returns-in-Spent-clause-stepped c = spent_gains c.args.who c.args.c (hub_floor c.args.hub.now c.args.pass.now)
    (hub_floor c.args.hub.now c.receive.new.pass) c.in-Spent.ensures.answer
