use Rattle.std.proofs.Common.{rules, arith}
use Rattle.channel_calls.specs.Calls.{seen}
use Rattle.select_calls.proofs.ClausesAt.{length_calls}
use Rattle.select_calls.proofs.AllPlaced.{none_placed, all_left, may_place, one_placed, one_left, one_resolved, one_spent, one_changed, one_unplaced}
use Rattle.select_calls.proofs.placing.place_all.Goals as goal

pub loop-i-init : goal.loop-i-init
loop-i-init g c = record {
  within = omega arith;
  same = search rules;
  so_far = none_placed _ _ c.requires.none;
  left = all_left _ (seen g.F.ChannelFloor.view g.B.NoteBook.items c.args.x.now);
}

pub place_at-requires : goal.place_at-requires
place_at-requires g c =
    record {
      may = may_place c.requires.may c.requires.waits (let same = length_calls c.args.clauses.now
          in omega (arith, c.loop-i-test.true, same))
          c.loop-i.invariant.so_far;
    }

pub loop-i-preserved : goal.loop-i-preserved
loop-i-preserved g c = record {
  within = omega (arith, c.loop-i-test.true);
  same = search rules;
  so_far = one_placed c.loop-i.invariant.so_far (rw c.in-Ok-Stands.field-0-is at c.in-Ok-Stands.ensures.answer);
  left = one_left c.loop-i.invariant.so_far c.requires.may (rw c.in-Ok-Stands.field-0-is at c.in-Ok-Stands.ensures.answer)
      c.loop-i.invariant.left;
}

pub returns-in-Ok-Resolved-clause-all : goal.returns-in-Ok-Resolved-clause-all
returns-in-Ok-Resolved-clause-all g c =
    record {
      answer = one_resolved c.loop-i.invariant.so_far (let same = length_calls c.args.clauses.now
          in omega (arith, c.loop-i-test.true, same)) (rw c.in-Ok-Resolved.field-0-is at c.in-Ok-Resolved.ensures.answer);
    }

pub returns-in-Ok-Changed-clause-all : goal.returns-in-Ok-Changed-clause-all
returns-in-Ok-Changed-clause-all g c =
    record {
      answer = one_changed c.loop-i.invariant.so_far c.loop-i.invariant.left
          (rw c.in-Ok-Changed.field-0-is at c.in-Ok-Changed.ensures.answer);
    }

pub returns-in-Ok-Spent-clause-all : goal.returns-in-Ok-Spent-clause-all
returns-in-Ok-Spent-clause-all g c =
    record { answer = one_spent c.loop-i.invariant.so_far (rw c.in-Ok-Spent.field-0-is at c.in-Ok-Spent.ensures.answer) }

pub returns-in-Err-clause-all : goal.returns-in-Err-clause-all
returns-in-Err-clause-all g c = record { answer = one_unplaced c.loop-i.invariant.so_far _ c.in-Err.ensures.answer }
