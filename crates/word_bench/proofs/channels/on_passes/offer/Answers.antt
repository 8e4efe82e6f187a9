use Rattle.std.proofs.Common.{ℕ, Bool, ap, ◌∙◌, refl}
use Rattle.cell_calls.specs.HubFloors.{hub_floor}
use Rattle.cell_calls.proofs.CallersStay.{offer_callers}
use Rattle.cell_words.proofs.LooksAtCells.{hub_legal}
use Rattle.word_bench.proofs.WaitsBegun.{offer_begins}
use Rattle.word_bench.proofs.channels.on_passes.offer.Goals as goal

pub returns : goal.returns
returns c =
    let old = hub_floor c.args.hub.now c.args.pass.now in
    let new = hub_floor c.args.hub.now c.offer.new.pass in
    let same = offer_callers c.args.who c.args.c c.args.value old new c.offer.result c.offer.ensures.answer in
    record {
      own = (c.offer.ensures.of, ap (λ (f : ℕ → Bool). f c.args.who) same ∙ c.requires.own.1);
      begins = offer_begins c.args.who c.args.c old new c.offer.new.pass refl (hub_legal c.args.hub.now c.offer.new.pass c.offer.ensures.of)
          c.args.value c.offer.result c.offer.ensures.answer;
    }
