use Rattle.std.proofs.Common.{false, subst}
use Rattle.ring_channel.specs.declared.act.RingSide.TheVariants.{Receive}
use Rattle.ring_channel.specs.Looks.{WaitAnswer}
use Rattle.ring_channel.specs.Outcomes.MissedValue.{came}
use Rattle.ring_channel.specs.Passes.{seen_by, tag_of}
use Rattle.ring_channel.proofs.ring.Ring.receive_once.Goals as goal

pub returns-else-stand_by-clause-tried : goal.returns-else-stand_by-clause-tried
returns-else-stand_by-clause-tried g c =
    let n = c.args.self.now.slots in
    let u = c.try_receive.new.pass in
    let w = c.stand_by.new.pass in
    came (seen_by u) c.in-Nothing.ensures.answer
    (subst (λ t. WaitAnswer n t Receive (seen_by u) (seen_by w) false) c.in-Nothing.ensures.same.0
    (subst (λ b. WaitAnswer n (tag_of u) Receive (seen_by u) (seen_by w) b) c.if-stand_by.false c.stand_by.ensures.answer))
