use Rattle.std.proofs.Common.{◌≡◌, sym, ◌∙◌, subst, true, false, ◌≤◌}
use Rattle.gates.specs.Seen.{now_in}
use Rattle.gates.proofs.StatesStaySound.{sound_of, held_small}
use Rattle.gates.proofs.WordsTell.{waits_found}
use Rattle.gates.proofs.gate.Gate.look.Goals as goal

pub returns-then-is_waiting-clause-answer : goal.returns-then-is_waiting-clause-answer
returns-then-is_waiting-clause-answer c =
    let f = c.args.self.now in
    let q = c.look_at-word.new.pass in
    let e = c.look_at-word.ensures in (
      e.adds,
      subst (λ t. (now_in q.seat.me.0).waits t ≡ true) e.same.0.0
          (waits_found q.seat.me.0.key c.look_at-word.result q.number (now_in q.seat.me.0) true e.found
          (sound_of q.seat.me.0.key q.seat.me.0.seen q.legal) (subst (λ k. k ≤ 65535) (sym e.of.1) f.few.1)
          (sym c.is_waiting.ensures ∙ c.if-is_waiting.true)),
    )

pub settle-requires-clause-granted : goal.settle-requires-clause-granted
settle-requires-clause-granted c =
    let f = c.args.self.now in
    let q = c.look_at-word.new.pass in
    let e = c.look_at-word.ensures in
    waits_found q.seat.me.0.key c.look_at-word.result q.number (now_in q.seat.me.0) false e.found
    (sound_of q.seat.me.0.key q.seat.me.0.seen q.legal) (subst (λ k. k ≤ 65535) (sym e.of.1) f.few.1)
    (sym c.is_waiting.ensures ∙ c.if-is_waiting.false)

pub settle-requires-clause-few : goal.settle-requires-clause-few
settle-requires-clause-few c =
    let f = c.args.self.now in
    let q = c.look_at-word.new.pass in
    let e = c.look_at-word.ensures in
    held_small q.seat.me.0.key q.number q.held q.waits (now_in q.seat.me.0) (sound_of q.seat.me.0.key q.seat.me.0.seen q.legal)
    (record { claimed = q.claimed; calm = q.calm }) (subst (λ k. k ≤ 65535) (sym e.of.1) f.few.1)
