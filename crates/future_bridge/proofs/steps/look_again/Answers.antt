use Rattle.cell_calls.specs.HubFloors.{hub_floor}
use Rattle.future_bridge.proofs.OwnPasses.{may_call, own_then, legal_of}
use Rattle.future_bridge.proofs.GainsGo.{never_settled, ready_now, never_sent, never_cancelled, never_undelivered, standing_gains, value_gains, over_gains}
use Rattle.future_bridge.proofs.steps.look_again.Goals as goal

pub unreachable-requires : goal.unreachable-requires
unreachable-requires c =
    let own = own_then c.args.hub.now c.args.pass.now c.look.new.pass c.args.who c.requires.own c.look.ensures.of
    c.look.ensures.answer.0.same.callers in
    never_settled c.args.who c.args.c c.args.place (hub_floor c.args.hub.now c.args.pass.now) (hub_floor c.args.hub.now c.look.new.pass)
    (legal_of c.args.hub.now c.look.new.pass c.args.who own) c.requires.last c.in-Settled.ensures.answer

pub settle-requires-clause-can : goal.settle-requires-clause-can
settle-requires-clause-can c =
    let own = own_then c.args.hub.now c.args.pass.now c.look.new.pass c.args.who c.requires.own c.look.ensures.of
    c.look.ensures.answer.0.same.callers in
    may_call c.args.hub.now c.look.new.pass c.args.who c.args.c own c.requires.channel

pub settle-requires-clause-ready : goal.settle-requires-clause-ready
settle-requires-clause-ready c =
    let own = own_then c.args.hub.now c.args.pass.now c.look.new.pass c.args.who c.requires.own c.look.ensures.of
    c.look.ensures.answer.0.same.callers in
    ready_now c.args.who c.args.c c.args.place (hub_floor c.args.hub.now c.args.pass.now) (hub_floor c.args.hub.now c.look.new.pass)
    (legal_of c.args.hub.now c.look.new.pass c.args.who own) c.requires.last c.in-Resolved.ensures.answer

pub unreachable-requires-in-Sent : goal.unreachable-requires-in-Sent
unreachable-requires-in-Sent c =
    let own = own_then c.args.hub.now c.args.pass.now c.look.new.pass c.args.who c.requires.own c.look.ensures.of
    c.look.ensures.answer.0.same.callers in
    never_sent c.args.who c.args.c c.args.place _ (hub_floor c.args.hub.now c.args.pass.now) (hub_floor c.args.hub.now c.look.new.pass)
    (hub_floor c.args.hub.now c.settle.new.pass) (legal_of c.args.hub.now c.look.new.pass c.args.who own) c.requires.last
    c.in-Resolved.ensures.answer c.in-Sent.ensures.answer

pub unreachable-requires-in-Cancelled : goal.unreachable-requires-in-Cancelled
unreachable-requires-in-Cancelled c =
    let own = own_then c.args.hub.now c.args.pass.now c.look.new.pass c.args.who c.requires.own c.look.ensures.of
    c.look.ensures.answer.0.same.callers in
    never_cancelled c.args.who c.args.c c.args.place (hub_floor c.args.hub.now c.args.pass.now) (hub_floor c.args.hub.now c.look.new.pass)
    (hub_floor c.args.hub.now c.settle.new.pass) (legal_of c.args.hub.now c.look.new.pass c.args.who own) c.requires.last
    c.in-Resolved.ensures.answer c.in-Cancelled.ensures.answer

pub unreachable-requires-in-Undelivered : goal.unreachable-requires-in-Undelivered
unreachable-requires-in-Undelivered c =
    let own = own_then c.args.hub.now c.args.pass.now c.look.new.pass c.args.who c.requires.own c.look.ensures.of
    c.look.ensures.answer.0.same.callers in
    never_undelivered c.args.who c.args.c c.args.place _ (hub_floor c.args.hub.now c.args.pass.now)
    (hub_floor c.args.hub.now c.look.new.pass) (hub_floor c.args.hub.now c.settle.new.pass)
    (legal_of c.args.hub.now c.look.new.pass c.args.who own) c.requires.last c.in-Resolved.ensures.answer
    c.in-Undelivered.ensures.answer

pub returns-in-Standing-clause-own : goal.returns-in-Standing-clause-own
returns-in-Standing-clause-own c = own_then c.args.hub.now c.args.pass.now c.look.new.pass c.args.who c.requires.own c.look.ensures.of
    c.look.ensures.answer.0.same.callers

pub returns-in-Standing-clause-stepped : goal.returns-in-Standing-clause-stepped
returns-in-Standing-clause-stepped c =
    let own = own_then c.args.hub.now c.args.pass.now c.look.new.pass c.args.who c.requires.own c.look.ensures.of
    c.look.ensures.answer.0.same.callers in
    standing_gains c.args.who c.args.c c.args.place (hub_floor c.args.hub.now c.args.pass.now) (hub_floor c.args.hub.now c.look.new.pass)
    (legal_of c.args.hub.now c.look.new.pass c.args.who own) c.requires.last c.in-Standing.ensures.answer

pub returns-in-Value-clause-own : goal.returns-in-Value-clause-own
returns-in-Value-clause-own c =
    let own = own_then c.args.hub.now c.args.pass.now c.look.new.pass c.args.who c.requires.own c.look.ensures.of
    c.look.ensures.answer.0.same.callers in
    own_then c.args.hub.now c.look.new.pass c.settle.new.pass c.args.who own c.settle.ensures.of c.settle.ensures.answer.0.same.callers

pub returns-in-Value-clause-stepped : goal.returns-in-Value-clause-stepped
returns-in-Value-clause-stepped c =
    let own = own_then c.args.hub.now c.args.pass.now c.look.new.pass c.args.who c.requires.own c.look.ensures.of
    c.look.ensures.answer.0.same.callers in
    value_gains c.args.who c.args.c c.args.place c.in-Value._clause c.in-Value.value (hub_floor c.args.hub.now c.args.pass.now)
    (hub_floor c.args.hub.now c.look.new.pass) (hub_floor c.args.hub.now c.settle.new.pass)
    (legal_of c.args.hub.now c.look.new.pass c.args.who own) c.requires.last c.in-Resolved.ensures.answer c.in-Value.ensures.answer

pub returns-in-Closed-clause-own : goal.returns-in-Closed-clause-own
returns-in-Closed-clause-own c =
    let own = own_then c.args.hub.now c.args.pass.now c.look.new.pass c.args.who c.requires.own c.look.ensures.of
    c.look.ensures.answer.0.same.callers in
    own_then c.args.hub.now c.look.new.pass c.settle.new.pass c.args.who own c.settle.ensures.of c.settle.ensures.answer.0.same.callers

pub returns-in-Closed-clause-stepped : goal.returns-in-Closed-clause-stepped
returns-in-Closed-clause-stepped c =
    let own = own_then c.args.hub.now c.args.pass.now c.look.new.pass c.args.who c.requires.own c.look.ensures.of
    c.look.ensures.answer.0.same.callers in
    let own_still = own_then c.args.hub.now c.look.new.pass c.settle.new.pass c.args.who own c.settle.ensures.of
    c.settle.ensures.answer.0.same.callers in
    over_gains c.args.who c.args.c c.args.place c.in-Closed._clause c.in-Closed.v (hub_floor c.args.hub.now c.args.pass.now)
    (hub_floor c.args.hub.now c.look.new.pass) (hub_floor c.args.hub.now c.settle.new.pass)
    (legal_of c.args.hub.now c.look.new.pass c.args.who own) (legal_of c.args.hub.now c.settle.new.pass c.args.who own_still)
    c.requires.last c.in-Resolved.ensures.answer c.in-Closed.ensures.answer
