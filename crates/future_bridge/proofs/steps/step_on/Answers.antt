use Rattle.std.specs.Prelude.{ℕ, Option}
use Rattle.std.proofs.Common.{sym, subst}
use Rattle.cell_calls.specs.HubFloors.{hub_floor}
use Rattle.future_bridge.specs.Gains.{Stepped}
use Rattle.future_bridge.proofs.steps.step_on.Goals as goal

pub returns-in-None-clause-stepped : goal.returns-in-None-clause-stepped
returns-in-None-clause-stepped c =
    subst (λ (w : Option ℕ). Stepped w c.args.who c.args.c (hub_floor c.args.hub.now c.args.pass.now)
    (hub_floor c.args.hub.now c.receive_next.new.pass) c.receive_next.result) (sym c.in-None.is) c.receive_next.ensures.stepped

pub returns-in-Some-clause-stepped : goal.returns-in-Some-clause-stepped
returns-in-Some-clause-stepped c =
    subst (λ (w : Option ℕ). Stepped w c.args.who c.args.c (hub_floor c.args.hub.now c.args.pass.now)
    (hub_floor c.args.hub.now c.look_again.new.pass) c.look_again.result) (sym c.in-Some.is) c.look_again.ensures.stepped
