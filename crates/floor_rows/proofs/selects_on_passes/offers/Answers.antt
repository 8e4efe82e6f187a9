use Rattle.std.proofs.Common.{ℕ, Bool, ap, ◌∙◌}
use Rattle.cell_calls.specs.HubFloors.{hub_floor}
use Rattle.cell_calls.proofs.CallersStay.{offer_callers}
use Rattle.floor_rows.proofs.selects_on_passes.offers.Goals as goal

pub returns : goal.returns
returns c =
    let same = offer_callers 2 c.args.c c.args.value (hub_floor c.args.hub.now c.args.pass.now)
    (hub_floor c.args.hub.now c.offer.new.pass) c.offer.result c.offer.ensures.answer in
    record { own = (c.offer.ensures.of, ap (λ (f : ℕ → Bool). f 2) same ∙ c.requires.own.1) }
