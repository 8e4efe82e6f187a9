use Rattle.std.proofs.Common.{sym, subst}
use Rattle.cell_words.specs.Hubs.{shape_of}
use Rattle.parcel_channel.specs.Hubs.{seen_by, floor_by}
use Rattle.parcel_channel.specs.Numbers.{HoldsWait}
use Rattle.future_bridge.proofs.OwnPasses.{legal_of}
use Rattle.waiting.specs.Stands.{AwaitsOn}
use Rattle.waiting.proofs.StaysThen.{ends_asleep}
use Rattle.waiting.proofs.PollsTold.{step_told}
use Rattle.waiting.proofs.ReceiversEnd.{awaits_still, received_so}
use Rattle.waiting.proofs.receiving.go_on.Goals as goal

pub look_at-requires-clause-wait : goal.look_at-requires-clause-wait
look_at-requires-clause-wait g c = c.requires.awaits.0.0

pub look_at-requires-clause-holds : goal.look_at-requires-clause-holds
look_at-requires-clause-holds g c = c.requires.awaits.1

pub polled_as-requires : goal.polled_as-requires
polled_as-requires g c =
    let hub = c.args.hub.now in
    let p = c.args.pass.now in
    let q = c.look_at.new.pass in
    let r = c.settle-settled.new.pass in
    let s = c.settle-settled.result in
    let ends = ends_asleep hub c.args.at p q r s c.look_at.ensures.stays (c.look_at.ensures.ready c.in-Resolved.is)
    c.settle-settled.ensures.answer in
    let legal = legal_of hub.hub r.pass r.tag c.settle-settled.ensures.of.2 in
    record {
      received = received_so (shape_of hub.hub) hub.parcels p.tag c.args.at (seen_by p) (seen_by r) (floor_by hub p) (floor_by hub r) s
          legal c.requires.awaits ends;
    }

pub returns-clause-held : goal.returns-clause-held
returns-clause-held g c =
    let hub = c.args.hub.now in
    let p = c.args.pass.now in
    let q = c.look_at.new.pass in
    let h = c.look_at.ensures.stays in
    subst (λ t. AwaitsOn t c.args.at (floor_by hub q)) (sym h.same.0)
    (awaits_still p.tag c.args.at (floor_by hub p) (floor_by hub q) h.looked
    (subst (λ t. HoldsWait t c.args.at (floor_by hub q)) h.same.0 h.holds) c.requires.awaits)

pub returns-in-Resolved-clause-step : goal.returns-in-Resolved-clause-step
returns-in-Resolved-clause-step g c =
    let hub = c.args.hub.now in
    let p = c.args.pass.now in
    let q = c.look_at.new.pass in
    let r = c.settle-settled.new.pass in
    let s = c.settle-settled.result in
    step_told hub c.args.at p r s c.polled_as.result
    (ends_asleep hub c.args.at p q r s c.look_at.ensures.stays (c.look_at.ensures.ready c.in-Resolved.is) c.settle-settled.ensures.answer)
    c.polled_as.ensures.ends
