use Rattle.std.proofs.Common.{ℕ, Bool, ap, ◌∙◌}
use Rattle.word_rules.specs.Cells.{spot}
use Rattle.cell_words.proofs.LooksAtCells.{hub_legal}
use Rattle.cell_calls.specs.HubFloors.{hub_floor}
use Rattle.word_bench.proofs.CallersGoOn.{admit_callers}
use Rattle.word_bench.proofs.WaitsBegun.{plain_admit}
use Rattle.word_bench.proofs.channels.on_passes.admit.Goals as goal

pub returns : goal.returns
returns c =
    let old = hub_floor c.args.hub.now c.args.pass.now in
    let new = hub_floor c.args.hub.now c.admit.new.pass in
    let same = admit_callers c.args.who 0 c.args.mark old new c.admit.result c.admit.ensures.answer in
    record {
      own = (c.admit.ensures.of, ap (λ (f : ℕ → Bool). f c.args.who) same ∙ c.requires.own.1);
      keeps = λ p h. plain_admit c.args.who 0 c.args.mark (spot 0 p) old new c.admit.result
          (hub_legal c.args.hub.now c.admit.new.pass c.admit.ensures.of) c.admit.ensures.answer h;
    }
