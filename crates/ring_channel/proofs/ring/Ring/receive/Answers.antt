use Rattle.std.proofs.Common.{refl, subst, ◌∙◌}
use Rattle.ring_channel.specs.Outcomes.{MissedValue}
use Rattle.ring_channel.specs.Outcomes.Tried.{first, again}
use Rattle.ring_channel.specs.Passes.{seen_by, tag_of}
use Rattle.ring_channel.proofs.ring.Ring.receive.Goals as goal

pub loop-tries-init : goal.loop-tries-init
loop-tries-init g c = (c.requires.of, (refl, (refl, refl)), first (seen_by c.args.pass.now))

pub loop-tries-preserved : goal.loop-tries-preserved
loop-tries-preserved g c =
    let p = c.loop-tries.pass in
    let q = c.receive_once.new.pass in
    let old = c.loop-tries.invariant in
    let same = c.receive_once.ensures.same in (
      c.receive_once.ensures.of,
      (same.0 ∙ old.1.0, (same.1.0 ∙ old.1.1.0, same.1.1 ∙ old.1.1.1)),
      again c.loop-tries.tries (seen_by c.args.pass.now) (seen_by p) (seen_by q) old.2
          (subst (λ t. MissedValue c.args.self.now.slots t (seen_by p) (seen_by q)) old.1.0 c.in-None.ensures.tried),
    )
