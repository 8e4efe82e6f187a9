use Rattle.std.proofs.Common.{refl}
use Rattle.ring_channel.specs.Seen.{now_in}
use Rattle.ring_channel.specs.Passes.{seen_by}
use Rattle.ring_channel.proofs.CountersRead.{open_if}
use Rattle.ring_channel.proofs.ring.Ring.is_closed.Goals as goal
use Rattle.ring_channel.proofs.StoreTells.{closed_of}

pub returns-then-tail-eq1-clause-answer : goal.returns-then-tail-eq1-clause-answer
returns-then-tail-eq1-clause-answer g c =
    let s = now_in c.args.self.now.slots (seen_by c.counter-tail.new.pass) in (
      c.counter-tail.ensures.adds,
      closed_of c.counter-tail.result s.puts s.closed (c.counter-tail.ensures.found.tail refl)
          c.if-tail-eq1.true,
    )

pub returns-clause-answer : goal.returns-clause-answer
returns-clause-answer g c =
    let s = now_in c.args.self.now.slots (seen_by c.counter-tail.new.pass) in (
      c.counter-tail.ensures.adds,
      open_if c.counter-tail.result s.puts s.closed (c.counter-tail.ensures.found.tail refl)
          c.if-tail-eq1.false,
    )
