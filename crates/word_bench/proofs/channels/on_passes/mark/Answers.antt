use Rattle.std.proofs.Common.{ℕ, Bool, ap, ◌∙◌}
use Rattle.word_rules.specs.Cells.{spot}
use Rattle.cell_words.proofs.LooksAtCells.{hub_legal}
use Rattle.cell_calls.specs.HubFloors.{hub_floor}
use Rattle.word_bench.proofs.WaitsBegun.{plain_looked}
use Rattle.word_bench.proofs.channels.on_passes.mark.Goals as goal

pub returns : goal.returns
returns c =
    let old = hub_floor c.args.hub.now c.args.pass.now in
    let new = hub_floor c.args.hub.now c.mark.new.pass in
    record {
      own = (c.mark.ensures.of, ap (λ (f : ℕ → Bool). f c.args.who) c.mark.ensures.answer.0.same.callers ∙ c.requires.own.1);
      keeps = λ p h. plain_looked c.args.who (spot 0 p) old new (hub_legal c.args.hub.now c.mark.new.pass c.mark.ensures.of)
          c.mark.ensures.answer.0 h;
    }
