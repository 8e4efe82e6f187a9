use Rattle.std.proofs.Common.{refl}
use Rattle.future_bridge.proofs.GainsGo.{gained_none}
use Rattle.future_bridge.proofs.StreamsGo.{runs_open, runs_over, runs_value, runs_fault, over_before, over_now, left_waiting}
use Rattle.future_bridge.proofs.receiving.ReceiveStreamStream.poll_next.Goals as goal

pub returns-then-self-clause-value : goal.returns-then-self-clause-value
returns-then-self-clause-value c = runs_over c.args.self.now.ended

pub returns-then-self-clause-polled : goal.returns-then-self-clause-polled
returns-then-self-clause-polled c = (c.if-self.true, gained_none _ _ _, over_before _ _ c.if-self.true refl)

pub returns-in-Item-clause-value : goal.returns-in-Item-clause-value
returns-in-Item-clause-value c = runs_open c.args.self.now.ended _ c.if-self.false

pub returns-in-Item-clause-rest : goal.returns-in-Item-clause-rest
returns-in-Item-clause-rest c = λ xs last h. runs_value c.args.self.now.ended c.in-Item.value xs last c.if-self.false h

pub returns-in-Ended-clause-value : goal.returns-in-Ended-clause-value
returns-in-Ended-clause-value c = runs_over c.args.self.now.ended

pub returns-in-Spent-clause-value : goal.returns-in-Spent-clause-value
returns-in-Spent-clause-value c = runs_open c.args.self.now.ended _ c.if-self.false

pub returns-in-Spent-clause-rest : goal.returns-in-Spent-clause-rest
returns-in-Spent-clause-rest c = λ xs last h. runs_fault c.args.self.now.ended _ xs last c.if-self.false h

pub returns-in-Ended-clause-polled : goal.returns-in-Ended-clause-polled
returns-in-Ended-clause-polled c = (
  refl,
  c.in-Ended.ensures.stepped.0,
  over_now _ _ c.if-self.false c.in-Ended._v c.in-Ended.ensures.stepped.1 c.in-Ended.ensures.stepped.2,
)

pub returns-in-Item-clause-polled : goal.returns-in-Item-clause-polled
returns-in-Item-clause-polled c = (c.if-self.false, c.in-Item.ensures.stepped.0, c.in-Item.ensures.stepped.1)

pub returns-in-Spent-clause-polled : goal.returns-in-Spent-clause-polled
returns-in-Spent-clause-polled c =
    (refl, c.in-Spent.ensures.stepped.0, c.in-Spent.ensures.stepped.1, c.in-Spent.ensures.stepped.2)

pub returns-in-Waits-clause-polled : goal.returns-in-Waits-clause-polled
returns-in-Waits-clause-polled c =
    let a = c.in-Waits.ensures.stepped in
    left_waiting _ _ _ c.yield_now.ensures.pending
    (refl, a.0, record { place = c.in-Waits.place; wait = refl; waits = a.1; by = a.2 })
