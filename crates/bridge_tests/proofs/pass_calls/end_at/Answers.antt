use Rattle.std.proofs.Common.{ℕ, Bool, ap, ◌∙◌}
use Rattle.cell_calls.specs.HubFloors.{hub_floor}
use Rattle.bridge_tests.proofs.ClosesSeen.{closed_seen, close_callers}
use Rattle.bridge_tests.proofs.pass_calls.end_at.Goals as goal

pub wake_closed-told-requires-clause-can : goal.wake_closed-told-requires-clause-can
wake_closed-told-requires-clause-can c =
    let same = close_callers c.args.who c.args.c c.args.v (hub_floor c.args.hub.now c.args.pass.now) (hub_floor c.args.hub.now c.close.new.pass)
    c.close.result c.close.ensures.answer in
    record { caller = ap (λ (f : ℕ → Bool). f c.args.who) same ∙ c.requires.own.1; channel = c.requires.channel }

pub wake_closed-told-requires-clause-closed : goal.wake_closed-told-requires-clause-closed
wake_closed-told-requires-clause-closed c =
    closed_seen c.args.who c.args.c c.args.v (hub_floor c.args.hub.now c.args.pass.now) (hub_floor c.args.hub.now c.close.new.pass) c.close.result
    c.close.ensures.answer
