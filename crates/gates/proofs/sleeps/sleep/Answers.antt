use Rattle.std.proofs.Common.{◌+◌, ap, ◌∙◌, refl, []}
use Rattle.gates.proofs.PassesTell.{adds_self, adds_then, adds_as}
use Rattle.gates.proofs.sleeps.sleep.Goals as goal

pub loop-init : goal.loop-init
loop-init g c = record {
  of = c.requires.of;
  same = (refl, refl);
  at = (refl, c.requires.waits);
  adds = adds_self c.args.pass.now.number c.args.pass.now.seat.me.0;
}

pub look-requires-clause-of : goal.look-requires-clause-of
look-requires-clause-of g c = c.loop.invariant.of

pub look-requires-clause-waits : goal.look-requires-clause-waits
look-requires-clause-waits g c = c.loop.invariant.at.1

pub returns-in-Held-clause-same : goal.returns-in-Held-clause-same
returns-in-Held-clause-same g c = (c.look.ensures.same.0 ∙ c.loop.invariant.same.0, c.look.ensures.same.1 ∙ c.loop.invariant.same.1)

pub returns-in-Held-clause-adds : goal.returns-in-Held-clause-adds
returns-in-Held-clause-adds g c =
    let p = c.args.pass.now in
    let u = c.loop.pass in
    let w = c.look.new.pass in
    adds_then p.number [] [] p.seat.me.0 u.seat.me.0 w.seat.me.0 c.loop.invariant.adds
    (adds_as u.number p.number [] u.seat.me.0 w.seat.me.0 c.loop.invariant.same.0 c.in-Held.ensures.answer.0)

pub returns-in-Held-clause-holds : goal.returns-in-Held-clause-holds
returns-in-Held-clause-holds g c = (
  c.in-Held.ensures.holds.0 ∙ ap (λ n. n + 1) c.loop.invariant.at.0,
  c.in-Held.ensures.holds.1,
)

pub loop-preserved : goal.loop-preserved
loop-preserved g c =
    let p = c.args.pass.now in
    let u = c.loop.pass in
    let w = c.look.new.pass in
    record {
      of = c.look.ensures.of;
      same = (c.look.ensures.same.0 ∙ c.loop.invariant.same.0, c.look.ensures.same.1 ∙ c.loop.invariant.same.1);
      at = (c.in-Waits.ensures.holds.0 ∙ c.loop.invariant.at.0, c.in-Waits.ensures.holds.1);
      adds = adds_then p.number [] [] p.seat.me.0 u.seat.me.0 w.seat.me.0 c.loop.invariant.adds
          (adds_as u.number p.number [] u.seat.me.0 w.seat.me.0 c.loop.invariant.same.0 c.in-Waits.ensures.answer.0);
    }
