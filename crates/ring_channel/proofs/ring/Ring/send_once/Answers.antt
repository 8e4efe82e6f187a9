use Rattle.std.proofs.Common.{false, refl, subst}
use Rattle.ring_channel.specs.declared.act.RingSide.TheVariants.{Send}
use Rattle.ring_channel.specs.Looks.{WaitAnswer}
use Rattle.ring_channel.specs.Outcomes.MissedRoom.{came}
use Rattle.ring_channel.specs.Passes.{seen_by, tag_of}
use Rattle.ring_channel.proofs.ring.Ring.send_once.Goals as goal

pub returns-else-stand_by-clause-tried : goal.returns-else-stand_by-clause-tried
returns-else-stand_by-clause-tried g c =
    let n = c.args.self.now.slots in
    let u = c.try_send.new.pass in
    let w = c.stand_by.new.pass in
    let a = c.in-Full.ensures.answer in (
      a.0,
      came (seen_by u) (refl, a.1, a.2)
          (subst (λ t. WaitAnswer n t Send (seen_by u) (seen_by w) false) c.in-Full.ensures.same.0
          (subst (λ b. WaitAnswer n (tag_of u) Send (seen_by u) (seen_by w) b) c.if-stand_by.false c.stand_by.ensures.answer)),
    )
