use Rattle.std.proofs.Common.{inl, inr, sym, subst}
use Rattle.parcel_channel.specs.Hubs.{seen_by, floor_by}
use Rattle.parcel_channel.specs.Numbers.{HoldsWait}
use Rattle.cell_words.specs.Hubs.{shape_of}
use Rattle.future_bridge.proofs.OwnPasses.{legal_of}
use Rattle.waiting.specs.Stands.{AwaitsOn}
use Rattle.waiting.specs.Waits.{EndsAsleep}
use Rattle.waiting.proofs.ReceiversEnd.{awaits_begun, received_so}
use Rattle.waiting.proofs.calls.receive.Goals as goal

pub returns-in-Value-clause-got : goal.returns-in-Value-clause-got
returns-in-Value-clause-got g c =
    inl (record { from = c.in-Value.from; admitted = c.in-Value.admitted; answer = c.in-Value.ensures.answer })

pub returns-in-Lost-clause-got : goal.returns-in-Lost-clause-got
returns-in-Lost-clause-got g c =
    inl (record { from = c.in-Lost.from; admitted = c.in-Lost.admitted; answer = c.in-Lost.ensures.answer })

pub returns-in-Closed-clause-got : goal.returns-in-Closed-clause-got
returns-in-Closed-clause-got g c = inl c.in-Closed.ensures.answer

pub returns-in-Spent-clause-got : goal.returns-in-Spent-clause-got
returns-in-Spent-clause-got g c = inl c.in-Spent.ensures.answer

pub end_asleep-settled-requires-clause-holds : goal.end_asleep-settled-requires-clause-holds
end_asleep-settled-requires-clause-holds g c =
    subst (λ t. HoldsWait t c.in-Waits.wait (floor_by c.args.hub.now c.receive.new.pass)) (sym c.receive.ensures.same.0)
    c.in-Waits.ensures.answer.3

pub receive_end-requires : goal.receive_end-requires
receive_end-requires g c =
    let hub = c.args.hub.now in
    let p = c.args.pass.now in
    let q = c.receive.new.pass in
    let r = c.end_asleep-settled.new.pass in
    let w = c.in-Waits.wait in
    let a = c.in-Waits.ensures.answer in
    let legal = legal_of hub.hub r.pass r.tag c.end_asleep-settled.ensures.of.2 in
    let awaits = subst (λ t. AwaitsOn t w (floor_by hub q)) (sym c.receive.ensures.same.0)
    (awaits_begun p.tag w (floor_by hub p) (floor_by hub q) a.0 a.1 a.3) in
    record {
      received = received_so (shape_of hub.hub) hub.parcels q.tag w (seen_by q) (seen_by r) (floor_by hub q) (floor_by hub r)
          c.end_asleep-settled.result legal awaits c.end_asleep-settled.ensures.ended;
    }

pub returns-in-Waits-clause-got : goal.returns-in-Waits-clause-got
returns-in-Waits-clause-got g c =
    let hub = c.args.hub.now in
    let q = c.receive.new.pass in
    let r = c.end_asleep-settled.new.pass in
    inr (
      c.end_asleep-settled.result,
      record {
        wait = c.in-Waits.wait;
        seen = seen_by q;
        floor = floor_by hub q;
        waits = c.in-Waits.ensures.answer;
        ends = subst (λ t. EndsAsleep hub.parcels t c.in-Waits.wait (seen_by q) (seen_by r) (floor_by hub q) (floor_by hub r)
            c.end_asleep-settled.result) c.receive.ensures.same.0 c.end_asleep-settled.ensures.ended;
      },
      c.receive_end.ensures.ends,
    )
