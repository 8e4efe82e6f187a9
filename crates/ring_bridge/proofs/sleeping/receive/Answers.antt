use Rattle.std.proofs.Common.{◌∙◌}
use Rattle.ring_channel.specs.Passes.{seen_by, tag_of}
use Rattle.ring_bridge.proofs.WaitsGo.{received_more}
use Rattle.ring_bridge.proofs.sleeping.receive.Goals as goal

pub loop-preserved : goal.loop-preserved
loop-preserved g c =
    let p = c.loop.pass in
    let q = c.receive_or_sleep.new.pass in
    let old = c.loop.invariant in
    let same = c.receive_or_sleep.ensures.same in
    record {
      finite = (tt, tt);
      of = c.receive_or_sleep.ensures.of;
      same = (same.0 ∙ old.same.0, (same.1.0 ∙ old.same.1.0, same.1.1 ∙ old.same.1.1));
      waited = received_more c.args.ring.now.slots (tag_of c.args.pass.now) (tag_of p) (seen_by c.args.pass.now) (seen_by p) (seen_by q)
          old.same.0 old.waited c.in-None-receive_or_sleep.ensures.turn;
    }
