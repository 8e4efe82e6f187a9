use Rattle.std.proofs.Common.{true, false, subst, ◌∙◌}
use Rattle.ring_channel.specs.declared.act.RingSide.TheVariants.{Send}
use Rattle.ring_channel.specs.Counters.{TakenAnswer, ClosedAnswer}
use Rattle.ring_channel.specs.Looks.{WaitAnswer}
use Rattle.ring_channel.specs.Passes.{seen_by, tag_of}
use Rattle.ring_bridge.specs.Leaves.{LeftBy}
use Rattle.ring_bridge.specs.Handings.NotClaimed.{stood, went_on}
use Rattle.ring_bridge.proofs.handing.await_once.Goals as goal

pub returns-then-was_taken-clause-turn : goal.returns-then-was_taken-clause-turn
returns-then-was_taken-clause-turn g c =
    let n = c.args.ring.now.slots in
    let who = tag_of c.args.pass.now in
    let u = c.was_taken.new.pass in
    let w = c.leave.new.pass in (
      seen_by u,
      subst (λ b. TakenAnswer n who c.args.place (seen_by c.args.pass.now) (seen_by u) b) c.if-was_taken.true c.was_taken.ensures.answer,
      subst (λ t. LeftBy n t Send (seen_by u) (seen_by w)) c.was_taken.ensures.same.0 c.leave.ensures.left,
    )

pub returns-then-not-stand_by-clause-turn : goal.returns-then-not-stand_by-clause-turn
returns-then-not-stand_by-clause-turn g c =
    let n = c.args.ring.now.slots in
    let a = c.was_taken.new.pass in
    let b = c.is_closed.new.pass in
    let d = c.stand_by.new.pass in
    let one = c.was_taken.ensures.same.0 in
    let two = c.is_closed.ensures.same.0 ∙ one in
    went_on (seen_by a) (seen_by b) c.if-was_taken.ensures.answer
    (subst (λ t. ClosedAnswer n t (seen_by a) (seen_by b) false) one c.if-is_closed.ensures.answer)
    (subst (λ t. WaitAnswer n t Send (seen_by b) (seen_by d) false) two c.if-not-stand_by.ensures.answer)

pub returns-then-not-was_taken-clause-turn : goal.returns-then-not-was_taken-clause-turn
returns-then-not-was_taken-clause-turn g c =
    let n = c.args.ring.now.slots in
    let a = c.was_taken.new.pass in
    let b = c.is_closed.new.pass in
    let d = c.stand_by.new.pass in
    let w = c.was_taken-2.new.pass in
    let one = c.was_taken.ensures.same.0 in
    let two = c.is_closed.ensures.same.0 ∙ one in
    stood (seen_by a) (seen_by b) (seen_by d) c.was_taken-2.result c.if-was_taken.ensures.answer
    (subst (λ t. ClosedAnswer n t (seen_by a) (seen_by b) false) one c.if-is_closed.ensures.answer)
    (subst (λ t. WaitAnswer n t Send (seen_by b) (seen_by d) true) two c.if-not-stand_by.ensures.answer)
    (subst (λ t. TakenAnswer n t c.args.place (seen_by d) (seen_by w) c.was_taken-2.result) (c.stand_by.ensures.same.0 ∙ two)
    c.was_taken-2.ensures.answer)

pub returns-else-not-was_taken-clause-turn : goal.returns-else-not-was_taken-clause-turn
returns-else-not-was_taken-clause-turn g c =
    let n = c.args.ring.now.slots in
    let a = c.was_taken.new.pass in
    let b = c.is_closed.new.pass in
    let d = c.stand_by.new.pass in
    let w = c.was_taken-2.new.pass in
    let one = c.was_taken.ensures.same.0 in
    let two = c.is_closed.ensures.same.0 ∙ one in
    stood (seen_by a) (seen_by b) (seen_by d) c.was_taken-2.result c.if-was_taken.ensures.answer
    (subst (λ t. ClosedAnswer n t (seen_by a) (seen_by b) false) one c.if-is_closed.ensures.answer)
    (subst (λ t. WaitAnswer n t Send (seen_by b) (seen_by d) true) two c.if-not-stand_by.ensures.answer)
    (subst (λ t. TakenAnswer n t c.args.place (seen_by d) (seen_by w) c.was_taken-2.result) (c.stand_by.ensures.same.0 ∙ two)
    c.was_taken-2.ensures.answer)
