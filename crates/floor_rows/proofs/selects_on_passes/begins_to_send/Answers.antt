use Rattle.std.proofs.Common.{ℕ, Bool, None, ap, ◌∙◌}
use Rattle.cell_calls.specs.HubFloors.{hub_floor}
use Rattle.cell_calls.proofs.CallersStay.{register_offer_callers}
use Rattle.floor_rows.proofs.selects_on_passes.begins_to_send.Goals as goal

pub returns : goal.returns
returns c =
    let same = register_offer_callers 2 1 c.args.c c.args.value None (hub_floor c.args.hub.now c.args.pass.now)
    (hub_floor c.args.hub.now c.register_offer.new.pass) c.register_offer.result c.register_offer.ensures.answer in
    record { own = (c.register_offer.ensures.of, ap (λ (f : ℕ → Bool). f 2) same ∙ c.requires.own.1) }
