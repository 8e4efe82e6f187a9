use Rattle.std.proofs.Common.{sym, ◌∙◌, subst, [], ◌≤◌}
use Rattle.gates.specs.Seen.{now_in}
use Rattle.gates.specs.Answers.{IsNot}
use Rattle.gates.proofs.StatesStaySound.{sound_of}
use Rattle.gates.proofs.WordsTell.{needs_told}
use Rattle.gates.proofs.PassesTell.{ready_for, ready_still, low_still, not_told, adds_then, act_as, beaten_as, beaten_after, counts_after}
use Rattle.gates.proofs.steps.turn_once.Goals as goal

pub next_act-requires-clause-who : goal.next_act-requires-clause-who
next_act-requires-clause-who c =
    low_still c.args.want c.args.pass.now c.look_at-word.new.pass c.look_at-word.ensures.same.0.0 c.requires.ready

pub act_at-requires-clause-needs : goal.act_at-requires-clause-needs
act_at-requires-clause-needs c =
    let f = c.args.gate.now in
    let q = c.look_at-word.new.pass in
    let e = c.look_at-word.ensures in
    needs_told q.seat.me.0.key c.look_at-word.result (now_in q.seat.me.0) q.number q.held q.waits c.in-Some.act e.found
    (sound_of q.seat.me.0.key q.seat.me.0.seen q.legal) (subst (λ k. k ≤ 65535) (sym e.of.1) f.few.1)
    (record { claimed = q.claimed; calm = q.calm })
    (ready_for c.args.want c.in-Some.act q c.in-Some.ensures.chosen.0
    (ready_still c.args.want c.args.pass.now q e.same.0.0 e.same.1.0 e.same.1.1 c.requires.ready))
    c.in-Some.ensures.chosen.1

pub act_at-requires-clause-ready : goal.act_at-requires-clause-ready
act_at-requires-clause-ready c =
    let q = c.look_at-word.new.pass in
    let e = c.look_at-word.ensures in
    ready_for c.args.want c.in-Some.act q c.in-Some.ensures.chosen.0
    (ready_still c.args.want c.args.pass.now q e.same.0.0 e.same.1.0 e.same.1.1 c.requires.ready)

pub returns-in-None-clause-told : goal.returns-in-None-clause-told
returns-in-None-clause-told c =
    let f = c.args.gate.now in
    let q = c.look_at-word.new.pass in
    let e = c.look_at-word.ensures in (
      e.adds,
      subst (λ t. IsNot c.args.want t (now_in q.seat.me.0)) e.same.0.0
          (not_told q.seat.me.0.key c.look_at-word.result c.args.want q.number (now_in q.seat.me.0) e.found
          (sound_of q.seat.me.0.key q.seat.me.0.seen q.legal) (subst (λ k. k ≤ 65535) (sym e.of.1) f.few.1) c.in-None.ensures.chosen),
    )

pub returns-then-act_at-clause-told : goal.returns-then-act_at-clause-told
returns-then-act_at-clause-told c =
    let p = c.args.pass.now in
    let q = c.look_at-word.new.pass in
    let r = c.act_at.new.pass in
    let e = c.look_at-word.ensures in
    let told = rw c.if-act_at.true at c.act_at.ensures.told in (
      c.in-Some.ensures.chosen.0,
      adds_then p.number [] _ p.seat.me.0 q.seat.me.0 r.seat.me.0 e.adds
          (act_as q.number p.number c.in-Some.act q.seat.me.0 r.seat.me.0 e.same.0.0 told.0),
    )

pub returns-else-act_at-clause-told : goal.returns-else-act_at-clause-told
returns-else-act_at-clause-told c =
    let p = c.args.pass.now in
    let q = c.look_at-word.new.pass in
    let r = c.act_at.new.pass in
    let e = c.look_at-word.ensures in
    let told = rw c.if-act_at.false at c.act_at.ensures.told in
    beaten_after 1 p.number p.seat.me.0 q.seat.me.0 r.seat.me.0 e.adds
    (beaten_as 1 q.number p.number q.seat.me.0 r.seat.me.0 e.same.0.0 told.0)

pub returns-then-act_at-clause-counts : goal.returns-then-act_at-clause-counts
returns-then-act_at-clause-counts c =
    let e = c.look_at-word.ensures in
    let told = rw c.if-act_at.true at c.act_at.ensures.told in
    counts_after c.in-Some.act c.args.pass.now c.look_at-word.new.pass c.act_at.new.pass e.same.1 told.1

pub returns-else-act_at-clause-counts : goal.returns-else-act_at-clause-counts
returns-else-act_at-clause-counts c =
    let e = c.look_at-word.ensures in
    let told = rw c.if-act_at.false at c.act_at.ensures.told in
    (told.1.0 ∙ e.same.1.0, told.1.1 ∙ e.same.1.1)
