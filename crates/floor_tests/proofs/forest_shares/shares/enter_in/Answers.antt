use Rattle.floor_tests.proofs.TagsGivenOut.{owns_still}
use Rattle.floor_tests.proofs.forest_shares.shares.enter_in.Goals as goal

pub loop-count-preserved : goal.loop-count-preserved
loop-count-preserved c = owns_still c.args.forest.now c.loop-count.pass c.work_on.new.pass c.args.from c.args.to c.args.from
    c.loop-count.invariant c.work_on.ensures.own c.work_on.ensures.same

pub returns-then-not-work_on : goal.returns-then-not-work_on
returns-then-not-work_on c = record {
  owns = owns_still c.args.forest.now c.loop-count.pass c.work_on.new.pass c.args.from c.args.to c.args.from
      c.loop-count.invariant c.work_on.ensures.own c.work_on.ensures.same;
}
