use Rattle.std.proofs.Common.{◌≡◌, sym, subst, false, ◌≤◌}
use Rattle.gates.specs.Seen.{now_in}
use Rattle.gates.proofs.StatesStaySound.{sound_of, held_small}
use Rattle.gates.proofs.gate.Gate.give_up.Goals as goal

pub settle-requires-clause-granted : goal.settle-requires-clause-granted
settle-requires-clause-granted c =
    let q = c.turn.new.pass in
    subst (λ t. (now_in q.seat.me.0).waits t ≡ false) (sym c.turn.ensures.same.0) c.in-Not.ensures.told.1

pub settle-requires-clause-few : goal.settle-requires-clause-few
settle-requires-clause-few c =
    let f = c.args.self.now in
    let q = c.turn.new.pass in
    held_small q.seat.me.0.key q.number q.held q.waits (now_in q.seat.me.0) (sound_of q.seat.me.0.key q.seat.me.0.seen q.legal)
    (record { claimed = q.claimed; calm = q.calm }) (subst (λ k. k ≤ 65535) (sym c.turn.ensures.of.1) f.few.1)
