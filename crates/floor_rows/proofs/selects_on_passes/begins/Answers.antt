use Rattle.std.proofs.Common.{ℕ, Bool, None, ap, ◌∙◌}
use Rattle.cell_calls.specs.HubFloors.{hub_floor}
use Rattle.cell_calls.proofs.CallersStay.{register_receive_callers}
use Rattle.floor_rows.proofs.selects_on_passes.begins.Goals as goal

pub returns : goal.returns
returns c =
    let same = register_receive_callers 1 1 c.args.c None (hub_floor c.args.hub.now c.args.pass.now)
    (hub_floor c.args.hub.now c.register_receive.new.pass) c.register_receive.result c.register_receive.ensures.answer in
    record { own = (c.register_receive.ensures.of, ap (λ (f : ℕ → Bool). f 1) same ∙ c.requires.own.1) }
