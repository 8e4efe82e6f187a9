use Rattle.std.proofs.Common.{arith}
use Rattle.floor_tests.proofs.TagsGivenOut.{owns_still}
use Rattle.floor_tests.proofs.forest_shares.shares.work_through.Goals as goal

pub loop-tag-preserved : goal.loop-tag-preserved
loop-tag-preserved c = record {
  owns = owns_still c.args.forest.now c.loop-tag.pass c.work_on.new.pass c.args.from c.args.to c.loop-tag.tag
      c.loop-tag.invariant.owns c.work_on.ensures.own c.work_on.ensures.same;
  from = omega (arith, c.loop-tag.invariant.from);
}
