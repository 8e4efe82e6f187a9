use Rattle.std.proofs.Common.{refl, sym, subst, arith, ◌<◌, ◌≤◌}
use Rattle.ring_channel.specs.Seen.{now_in}
use Rattle.ring_channel.specs.Passes.{seen_by}
use Rattle.ring_channel.proofs.ring.Ring.was_taken.Goals as goal

pub returns-then-place-head-clause-answer : goal.returns-then-place-head-clause-answer
returns-then-place-head-clause-answer g c = (
  c.counter-head.ensures.adds,
  subst (λ z. c.args.place < z) (c.counter-head.ensures.found.head refl) c.if-place-head.true,
)

pub returns-clause-answer : goal.returns-clause-answer
returns-clause-answer g c = (
  c.counter-head.ensures.adds,
  subst (λ z. z ≤ c.args.place) (c.counter-head.ensures.found.head refl) (let high = c.if-place-head.false in omega (arith, high)),
)
