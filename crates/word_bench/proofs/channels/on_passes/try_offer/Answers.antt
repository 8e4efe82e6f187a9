use Rattle.std.proofs.Common.{ℕ, Bool, ap, ◌∙◌}
use Rattle.cell_calls.specs.HubFloors.{hub_floor}
use Rattle.word_bench.proofs.CallersGoOn.{try_offer_callers}
use Rattle.word_bench.proofs.channels.on_passes.try_offer.Goals as goal

pub returns : goal.returns
returns c =
    let same = try_offer_callers c.args.who 0 c.args.value (hub_floor c.args.hub.now c.args.pass.now)
    (hub_floor c.args.hub.now c.try_offer.new.pass) c.try_offer.result c.try_offer.ensures.answer in
    record { own = (c.try_offer.ensures.of, ap (λ (f : ℕ → Bool). f c.args.who) same ∙ c.requires.own.1) }
