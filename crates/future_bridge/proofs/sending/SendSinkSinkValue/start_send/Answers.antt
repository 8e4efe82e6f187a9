use Rattle.cell_calls.specs.HubFloors.{hub_floor}
use Rattle.future_bridge.proofs.SendsGo.{started_sent, started_waits}
use Rattle.future_bridge.proofs.TakenBySinks.{sent_given, waits_given}
use Rattle.future_bridge.proofs.sending.SendSinkSinkValue.start_send.Goals as goal

pub returns-in-Sent-clause-history : goal.returns-in-Sent-clause-history
returns-in-Sent-clause-history c =
    let s = c.args.self.now in
    sent_given s.who s.c c.args.item (hub_floor s.hub.now s.pass) (hub_floor s.hub.now c.offer_next.new.pass) c.in-Sent.ensures.offered

pub returns-in-Waits-clause-history : goal.returns-in-Waits-clause-history
returns-in-Waits-clause-history c =
    let s = c.args.self.now in
    waits_given s.who s.c c.args.item c.in-Waits.place (hub_floor s.hub.now s.pass) (hub_floor s.hub.now c.offer_next.new.pass)
    c.in-Waits.ensures.offered

pub returns-in-Sent-clause-started : goal.returns-in-Sent-clause-started
returns-in-Sent-clause-started c =
    let s = c.args.self.now in
    started_sent s.who s.c c.args.item s.wait (hub_floor s.hub.now s.pass) (hub_floor s.hub.now c.offer_next.new.pass) c.requires.ready.1
    c.in-Sent.ensures.offered

pub returns-in-Waits-clause-started : goal.returns-in-Waits-clause-started
returns-in-Waits-clause-started c =
    let s = c.args.self.now in
    started_waits s.who s.c c.args.item c.in-Waits.place (hub_floor s.hub.now s.pass) (hub_floor s.hub.now c.offer_next.new.pass)
    c.in-Waits.ensures.offered
