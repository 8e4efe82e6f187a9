use Rattle.std.proofs.Common.{arith}
use Rattle.channel_calls.proofs.Repeated.{same_self, still_same}
use Rattle.library_examples.proofs.semaphores.acquire_free.Goals as goal

pub try_acquire-requires : goal.try_acquire-requires
try_acquire-requires g c = record { uses = c.loop-count.invariant.uses }

pub returns-in-Ok-Empty-clause-same : goal.returns-in-Ok-Empty-clause-same
returns-in-Ok-Empty-clause-same g c =
    let t = c.try_acquire.ensures.same in
    still_same _ _ _ c.loop-count.invariant.same t.floor t.book t.wakes t.who t.anchor_is

pub returns-in-Ok-Empty-clause-uses : goal.returns-in-Ok-Empty-clause-uses
returns-in-Ok-Empty-clause-uses g c = rw c.try_acquire.ensures.same.who c.try_acquire.ensures.uses

pub returns-in-Ok-Closed-clause-same : goal.returns-in-Ok-Closed-clause-same
returns-in-Ok-Closed-clause-same g c =
    let t = c.try_acquire.ensures.same in
    still_same _ _ _ c.loop-count.invariant.same t.floor t.book t.wakes t.who t.anchor_is

pub returns-in-Ok-Closed-clause-uses : goal.returns-in-Ok-Closed-clause-uses
returns-in-Ok-Closed-clause-uses g c = rw c.try_acquire.ensures.same.who c.try_acquire.ensures.uses

pub returns-in-Err-clause-same : goal.returns-in-Err-clause-same
returns-in-Err-clause-same g c =
    let t = c.try_acquire.ensures.same in
    still_same _ _ _ c.loop-count.invariant.same t.floor t.book t.wakes t.who t.anchor_is

pub returns-in-Err-clause-uses : goal.returns-in-Err-clause-uses
returns-in-Err-clause-uses g c = rw c.try_acquire.ensures.same.who c.try_acquire.ensures.uses

pub returns-clause-same : goal.returns-clause-same
returns-clause-same g c = c.loop-count.invariant.same

pub returns-clause-uses : goal.returns-clause-uses
returns-clause-uses g c = c.loop-count.invariant.uses

pub returns-in-Ok-Empty-clause-more : goal.returns-in-Ok-Empty-clause-more
returns-in-Ok-Empty-clause-more g c =
    let number = rw c.in-Ok-Empty.field-0-is at c.in-Ok-Empty.ensures.number in
    omega (arith, number, c.loop-count.invariant.more)

pub returns-in-Ok-Closed-clause-more : goal.returns-in-Ok-Closed-clause-more
returns-in-Ok-Closed-clause-more g c =
    let number = rw c.in-Ok-Closed.field-0-is at c.in-Ok-Closed.ensures.number in
    omega (arith, number, c.loop-count.invariant.more)

pub loop-count-init : goal.loop-count-init
loop-count-init g c = record { same = same_self _; uses = c.requires.uses; more = omega arith }

pub loop-count-preserved : goal.loop-count-preserved
loop-count-preserved g c =
    let t = c.try_acquire.ensures.same in
    let number = rw c.in-Ok-Held.field-0-is at c.in-Ok-Held.ensures.number in
    record {
      same = still_same _ _ _ c.loop-count.invariant.same t.floor t.book t.wakes t.who t.anchor_is;
      uses = rw t.who c.try_acquire.ensures.uses;
      more = omega (arith, number, c.loop-count.invariant.more);
    }
