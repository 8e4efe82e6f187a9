use Rattle.std.proofs.Common.{inl, inr, ◌+◌, ◌<◌, sym, ap, ◌∙◌, subst, refl, [], ◌∷◌}
use Rattle.gates.specs.declared.act.GateAct.TheVariants as act
use Rattle.gates.specs.Seen.{entry_of}
use Rattle.gates.proofs.PassesTell.{adds_self, adds_then, adds_as, act_as}
use Rattle.gates.proofs.gate.Gate.blocking_acquire.Goals as goal

pub loop-init : goal.loop-init
loop-init g c = record {
  of = c.requires.of;
  same = (refl, refl);
  at = (refl, c.requires.not);
  adds = adds_self c.args.pass.now.number c.args.pass.now.seat.me.0;
}

pub acquire-requires-clause-of : goal.acquire-requires-clause-of
acquire-requires-clause-of g c = c.loop.invariant.of

pub acquire-requires-clause-not : goal.acquire-requires-clause-not
acquire-requires-clause-not g c = c.loop.invariant.at.1

pub acquire-requires-clause-low : goal.acquire-requires-clause-low
acquire-requires-clause-low g c = subst (λ n. n < 48) (sym c.loop.invariant.same.0) c.requires.low

pub returns-in-Held-clause-same : goal.returns-in-Held-clause-same
returns-in-Held-clause-same g c = (c.acquire.ensures.same.0 ∙ c.loop.invariant.same.0, c.acquire.ensures.same.1 ∙ c.loop.invariant.same.1)

pub returns-in-Held-clause-answer : goal.returns-in-Held-clause-answer
returns-in-Held-clause-answer g c =
    let p = c.args.pass.now in
    let u = c.loop.pass in
    let w = c.acquire.new.pass in
    inl (adds_then p.number [] (entry_of p.number act.Take ∷ []) p.seat.me.0 u.seat.me.0 w.seat.me.0 c.loop.invariant.adds
    (act_as u.number p.number act.Take u.seat.me.0 w.seat.me.0 c.loop.invariant.same.0 c.in-Held.ensures.answer))

pub returns-in-Held-clause-holds : goal.returns-in-Held-clause-holds
returns-in-Held-clause-holds g c = (
  c.in-Held.ensures.holds.0 ∙ ap (λ n. n + 1) c.loop.invariant.at.0,
  c.in-Held.ensures.holds.1,
)

pub sleep-requires-clause-low : goal.sleep-requires-clause-low
sleep-requires-clause-low g c = subst (λ n. n < 48) (sym (c.acquire.ensures.same.0 ∙ c.loop.invariant.same.0)) c.requires.low

pub returns-in-Waits-clause-same : goal.returns-in-Waits-clause-same
returns-in-Waits-clause-same g c = (
  c.sleep.ensures.same.0 ∙ c.acquire.ensures.same.0 ∙ c.loop.invariant.same.0,
  c.sleep.ensures.same.1 ∙ c.acquire.ensures.same.1 ∙ c.loop.invariant.same.1,
)

pub returns-in-Waits-clause-answer : goal.returns-in-Waits-clause-answer
returns-in-Waits-clause-answer g c =
    let p = c.args.pass.now in
    let u = c.loop.pass in
    let w = c.acquire.new.pass in
    let z = c.sleep.new.pass in
    let wait = adds_then p.number [] (entry_of p.number act.Wait ∷ []) p.seat.me.0 u.seat.me.0 w.seat.me.0 c.loop.invariant.adds
    (act_as u.number p.number act.Wait u.seat.me.0 w.seat.me.0 c.loop.invariant.same.0 c.in-Waits.ensures.answer) in
    inr (adds_then p.number (entry_of p.number act.Wait ∷ []) [] p.seat.me.0 w.seat.me.0 z.seat.me.0 wait
    (adds_as w.number p.number [] w.seat.me.0 z.seat.me.0 (c.acquire.ensures.same.0 ∙ c.loop.invariant.same.0) c.sleep.ensures.adds))

pub returns-in-Waits-clause-holds : goal.returns-in-Waits-clause-holds
returns-in-Waits-clause-holds g c = (
  c.sleep.ensures.holds.0 ∙ ap (λ n. n + 1) (c.in-Waits.ensures.holds.0 ∙ c.loop.invariant.at.0),
  c.sleep.ensures.holds.1,
)

pub loop-preserved : goal.loop-preserved
loop-preserved g c =
    let p = c.args.pass.now in
    let u = c.loop.pass in
    let w = c.acquire.new.pass in
    record {
      of = c.acquire.ensures.of;
      same = (c.acquire.ensures.same.0 ∙ c.loop.invariant.same.0, c.acquire.ensures.same.1 ∙ c.loop.invariant.same.1);
      at = (c.in-Busy.ensures.holds.0 ∙ c.loop.invariant.at.0, c.in-Busy.ensures.holds.1);
      adds = adds_then p.number [] [] p.seat.me.0 u.seat.me.0 w.seat.me.0 c.loop.invariant.adds
          (adds_as u.number p.number [] u.seat.me.0 w.seat.me.0 c.loop.invariant.same.0 c.in-Busy.ensures.answer.adds);
    }
