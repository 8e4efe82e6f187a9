use Rattle.std.proofs.Common.{ℕ, Bool, ap, ◌∙◌, refl}
use Rattle.cell_calls.specs.HubFloors.{hub_floor}
use Rattle.cell_calls.proofs.CallersStay.{got_callers}
use Rattle.cell_words.proofs.LooksAtCells.{hub_legal}
use Rattle.word_bench.proofs.WaitsBegun.{wait_begins}
use Rattle.word_bench.proofs.channels.on_passes.receive.Goals as goal

pub returns : goal.returns
returns c =
    let old = hub_floor c.args.hub.now c.args.pass.now in
    let new = hub_floor c.args.hub.now c.receive.new.pass in
    let same = got_callers c.args.who 0 old new c.receive.result c.receive.ensures.answer in
    record {
      own = (c.receive.ensures.of, ap (λ (f : ℕ → Bool). f c.args.who) same ∙ c.requires.own.1);
      begins = wait_begins c.args.who 0 old new c.receive.new.pass refl (hub_legal c.args.hub.now c.receive.new.pass c.receive.ensures.of)
          c.receive.result c.receive.ensures.answer;
    }
