use Rattle.std.proofs.Common.{refl, subst, ◌∙◌}
use Rattle.ring_channel.specs.Outcomes.{MissedRoom}
use Rattle.ring_channel.specs.Outcomes.Tried.{first, again}
use Rattle.ring_channel.specs.Passes.{seen_by, tag_of}
use Rattle.ring_channel.proofs.ring.Ring.send.Goals as goal

pub loop-tries-init : goal.loop-tries-init
loop-tries-init g c = (c.requires.of, (refl, (refl, refl)), refl, first (seen_by c.args.pass.now))

pub loop-tries-preserved : goal.loop-tries-preserved
loop-tries-preserved g c =
    let n = c.args.self.now.slots in
    let places = c.args.self.now.places in
    let p = c.loop-tries.pass in
    let q = c.send_once.new.pass in
    let old = c.loop-tries.invariant in
    let same = c.send_once.ensures.same in
    let missed = c.in-Err.ensures.tried in (
      c.send_once.ensures.of,
      (same.0 ∙ old.1.0, (same.1.0 ∙ old.1.1.0, same.1.1 ∙ old.1.1.1)),
      missed.0 ∙ old.2,
      again c.loop-tries.tries (seen_by c.args.pass.now) (seen_by p) (seen_by q) old.3
          (subst (λ x. MissedRoom n places (tag_of c.args.pass.now) x (seen_by p) (seen_by q)) old.2
          (subst (λ t. MissedRoom n places t c.loop-tries.value (seen_by p) (seen_by q)) old.1.0 missed.1)),
    )
