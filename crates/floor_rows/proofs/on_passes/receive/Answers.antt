use Rattle.std.proofs.Common.{ℕ, Bool, ap, ◌∙◌}
use Rattle.cell_calls.specs.HubFloors.{hub_floor}
use Rattle.cell_calls.proofs.CallersStay.{got_callers}
use Rattle.floor_rows.proofs.on_passes.receive.Goals as goal

pub returns : goal.returns
returns c =
    let same = got_callers c.args.who 0 (hub_floor c.args.hub.now c.args.pass.now) (hub_floor c.args.hub.now c.receive.new.pass)
    c.receive.result c.receive.ensures.answer in
    record { own = (c.receive.ensures.of, ap (λ (f : ℕ → Bool). f c.args.who) same ∙ c.requires.own.1) }
