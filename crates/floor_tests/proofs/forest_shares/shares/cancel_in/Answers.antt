use Rattle.floor_tests.proofs.TagsGivenOut.{owns_still}
use Rattle.floor_tests.proofs.forest_shares.shares.cancel_in.Goals as goal

pub returns : goal.returns
returns c = record {
  owns = owns_still c.args.forest.now c.args.pass.now c.cancel_root.new.pass c.args.from c.args.to
      c.args.from c.requires.owns c.cancel_root.ensures.own c.cancel_root.ensures.same;
}
