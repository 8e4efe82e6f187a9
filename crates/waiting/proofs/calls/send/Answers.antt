use Rattle.std.proofs.Common.{inl, inr, sym, subst}
use Rattle.parcel_channel.specs.Hubs.{seen_by, floor_by}
use Rattle.parcel_channel.specs.Numbers.{HoldsWait}
use Rattle.waiting.specs.Waits.{EndsAsleep}
use Rattle.waiting.proofs.calls.send.Goals as goal

pub returns-in-Sent-clause-sent : goal.returns-in-Sent-clause-sent
returns-in-Sent-clause-sent g c = inl (record { to = c.in-Sent.to; admitted = c.in-Sent.admitted; answer = c.in-Sent.ensures.answer })

pub returns-in-Closed-clause-sent : goal.returns-in-Closed-clause-sent
returns-in-Closed-clause-sent g c = inl c.in-Closed.ensures.answer

pub returns-in-Spent-clause-sent : goal.returns-in-Spent-clause-sent
returns-in-Spent-clause-sent g c = inl c.in-Spent.ensures.answer

pub returns-in-NoParcel-clause-sent : goal.returns-in-NoParcel-clause-sent
returns-in-NoParcel-clause-sent g c = inl c.in-NoParcel.ensures.answer

pub returns-in-Lost-clause-sent : goal.returns-in-Lost-clause-sent
returns-in-Lost-clause-sent g c = inl c.in-Lost.ensures.answer

pub end_asleep-settled-requires-clause-holds : goal.end_asleep-settled-requires-clause-holds
end_asleep-settled-requires-clause-holds g c =
    subst (λ t. HoldsWait t c.in-Waits.wait (floor_by c.args.hub.now c.send.new.pass)) (sym c.send.ensures.same.0)
    c.in-Waits.ensures.answer.4

pub returns-in-Waits-clause-sent : goal.returns-in-Waits-clause-sent
returns-in-Waits-clause-sent g c =
    let hub = c.args.hub.now in
    let q = c.send.new.pass in
    let r = c.end_asleep-settled.new.pass in
    inr (
      c.end_asleep-settled.result,
      record {
        wait = c.in-Waits.wait;
        admitted = c.in-Waits.admitted;
        seen = seen_by q;
        floor = floor_by hub q;
        waits = c.in-Waits.ensures.answer;
        ends = subst (λ t. EndsAsleep hub.parcels t c.in-Waits.wait (seen_by q) (seen_by r) (floor_by hub q) (floor_by hub r)
            c.end_asleep-settled.result) c.send.ensures.same.0 c.end_asleep-settled.ensures.ended;
      },
      c.send_end.ensures.ends,
    )
