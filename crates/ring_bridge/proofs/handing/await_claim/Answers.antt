use Rattle.std.proofs.Common.{◌∙◌}
use Rattle.ring_channel.specs.Passes.{seen_by, tag_of}
use Rattle.ring_bridge.proofs.HandsOver.{awaited_more}
use Rattle.ring_bridge.proofs.handing.await_claim.Goals as goal

pub loop-preserved : goal.loop-preserved
loop-preserved g c =
    let p = c.loop.pass in
    let q = c.await_once.new.pass in
    let old = c.loop.invariant in
    let same = c.await_once.ensures.same in
    record {
      finite = (tt, tt);
      of = c.await_once.ensures.of;
      same = (same.0 ∙ old.same.0, (same.1.0 ∙ old.same.1.0, same.1.1 ∙ old.same.1.1));
      awaited = awaited_more c.args.ring.now.slots (tag_of c.args.pass.now) (tag_of p) c.args.place (seen_by c.args.pass.now) (seen_by p)
          (seen_by q) old.same.0 old.awaited c.in-None-await_once.ensures.turn;
    }
