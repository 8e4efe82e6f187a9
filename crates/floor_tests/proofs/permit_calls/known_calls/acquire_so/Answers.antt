use Rattle.std.proofs.Common.{sym, subst, Option}
use Rattle.co_base.specs.declared.names.WaitId.{WaitId}
use Rattle.floor_tests.specs.KnownPermits.{IsOwnWait}
use Rattle.floor_tests.proofs.CallsAdd.{acquire_adds, acquired_wait, untouched_adds}
use Rattle.floor_tests.proofs.permit_calls.known_calls.acquire_so.Goals as goal

pub returns-in-Ok-clause-same : goal.returns-in-Ok-clause-same
returns-in-Ok-clause-same g c = c.acquire.ensures.same

pub returns-in-Ok-clause-adds : goal.returns-in-Ok-clause-adds
returns-in-Ok-clause-adds g c = acquire_adds _ _ _ _ _ _ _ c.acquire.result c.acquire.ensures.answer

pub returns-in-Ok-clause-knows : goal.returns-in-Ok-clause-knows
returns-in-Ok-clause-knows g c = record {
  uses = c.acquire.ensures.uses;
  wait = subst (λ (w : Option WaitId). IsOwnWait c.args.p.now.c c.args.x.now.who w (g.F.ChannelFloor.view c.acquire.new.x.floor.now))
      (sym c.wait_of-known.ensures)
      (acquired_wait _ _ _ _ _ _ _ c.in-Ok.answer c.acquire.ensures.same.who c.in-Ok.ensures.answer);
}

pub returns-in-Err-clause-same : goal.returns-in-Err-clause-same
returns-in-Err-clause-same g c = c.acquire.ensures.same

pub returns-in-Err-clause-adds : goal.returns-in-Err-clause-adds
returns-in-Err-clause-adds g c = untouched_adds _ _ _ _ _ _ c.in-Err.ensures.answer
