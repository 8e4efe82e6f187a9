use Rattle.std.proofs.Common.{◌∙◌}
use Rattle.ring_channel.specs.Passes.{seen_by, tag_of}
use Rattle.ring_bridge.proofs.WaitsGo.{sent_more}
use Rattle.ring_bridge.proofs.sleeping.send.Goals as goal

pub loop-preserved : goal.loop-preserved
loop-preserved g c =
    let p = c.loop.pass in
    let q = c.send_or_sleep.new.pass in
    let old = c.loop.invariant in
    let same = c.send_or_sleep.ensures.same in
    let turn = c.in-Err.ensures.turn in
    record {
      finite = (tt, tt);
      of = c.send_or_sleep.ensures.of;
      same = (same.0 ∙ old.same.0, (same.1.0 ∙ old.same.1.0, same.1.1 ∙ old.same.1.1));
      value = turn.0 ∙ old.value;
      waited = sent_more c.args.ring.now.slots c.args.ring.now.places (tag_of c.args.pass.now) (tag_of p) c.args.value c.loop.value
          (seen_by c.args.pass.now) (seen_by p) (seen_by q) old.same.0 old.value old.waited turn.1;
    }
