use Rattle.std.proofs.Common.{rules, arith}
use Rattle.select_calls.proofs.AllTried.{none_tried, one_blocked, one_chosen, one_spent, one_stopped}
use Rattle.select_calls.proofs.tries.try_all.Goals as goal

pub loop-i-init : goal.loop-i-init
loop-i-init g c = record { within = omega arith; same = search rules; blocked = none_tried _ _ }

pub returns-in-Ok-Ready-clause-tried : goal.returns-in-Ok-Ready-clause-tried
returns-in-Ok-Ready-clause-tried g c =
    record { answer = one_chosen c.loop-i.invariant.blocked _ (rw c.in-Ok-Ready.field-0-is at c.in-Ok-Ready.ensures.answer) }

pub loop-i-preserved : goal.loop-i-preserved
loop-i-preserved g c = record {
  within = omega (arith, c.loop-i-test.true);
  same = search rules;
  blocked = one_blocked c.loop-i.invariant.blocked (rw c.in-Ok-Blocked.field-0-is at c.in-Ok-Blocked.ensures.answer);
}

pub returns-in-Ok-Spent-clause-tried : goal.returns-in-Ok-Spent-clause-tried
returns-in-Ok-Spent-clause-tried g c =
    record { answer = one_spent c.loop-i.invariant.blocked (rw c.in-Ok-Spent.field-0-is at c.in-Ok-Spent.ensures.answer) }

pub returns-in-Err-clause-tried : goal.returns-in-Err-clause-tried
returns-in-Err-clause-tried g c = record { answer = one_stopped c.loop-i.invariant.blocked _ c.in-Err.ensures.answer }
