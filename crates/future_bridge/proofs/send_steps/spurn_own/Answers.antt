use Rattle.cell_calls.specs.HubFloors.{hub_floor}
use Rattle.future_bridge.proofs.OwnPasses.{may_call, own_then}
use Rattle.future_bridge.proofs.SendsGo.{spurned_own, stays_own}
use Rattle.future_bridge.proofs.send_steps.spurn_own.Goals as goal

pub spurn-requires-clause-can : goal.spurn-requires-clause-can
spurn-requires-clause-can c = may_call c.args.hub.now c.args.pass.now c.args.who c.args.c c.requires.own c.requires.channel

pub returns-in-Some-clause-own : goal.returns-in-Some-clause-own
returns-in-Some-clause-own c = own_then c.args.hub.now c.args.pass.now c.spurn.new.pass c.args.who c.requires.own c.in-Some.ensures.of
    c.in-Some.ensures.answer.same.callers

pub returns-in-Some-clause-spurns : goal.returns-in-Some-clause-spurns
returns-in-Some-clause-spurns c = spurned_own c.args.who c.args.c c.args.mine c.in-Some._value (hub_floor c.args.hub.now c.args.pass.now)
    (hub_floor c.args.hub.now c.spurn.new.pass) c.in-Some.ensures.answer

pub returns-in-None-clause-own : goal.returns-in-None-clause-own
returns-in-None-clause-own c = own_then c.args.hub.now c.args.pass.now c.spurn.new.pass c.args.who c.requires.own c.in-None.ensures.of
    c.in-None.ensures.answer.0.same.callers

pub returns-in-None-clause-spurns : goal.returns-in-None-clause-spurns
returns-in-None-clause-spurns c = stays_own c.args.who c.args.c c.args.mine (hub_floor c.args.hub.now c.args.pass.now)
    (hub_floor c.args.hub.now c.spurn.new.pass) c.in-None.ensures.answer
