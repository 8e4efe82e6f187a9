use Rattle.std.proofs.Common.{ℕ, Bool, ap, ◌∙◌}
use Rattle.channel_model.specs.Histories.{replay}
use Rattle.word_rules.specs.Cells.{spot}
use Rattle.cell_words.specs.Hubs.{shape_of, seen_by}
use Rattle.cell_words.proofs.LooksAtCells.{hub_legal, own_seen}
use Rattle.cell_calls.proofs.OwnCells.{ready_told}
use Rattle.floor_rows.proofs.on_passes.settle.Goals as goal

pub settle-requires-clause-ready : goal.settle-requires-clause-ready
settle-requires-clause-ready c =
    let h = c.look_at.ensures in
    let w = spot 0 c.args.place in
    ready_told c.args.who ((replay (seen_by c.look_at.new.pass).seen).waits w) c.look_at.result
    (own_seen (shape_of c.args.hub.now) c.args.who w (seen_by c.is_own.new.pass) (seen_by c.look_at.new.pass) c.is_own.ensures.own.1 h.sees
    (hub_legal c.args.hub.now c.look_at.new.pass h.own.0) (c.is_own.ensures.mine c.if-is_own.true))
    h.state c.in-Resolved.is

pub returns-in-Resolved : goal.returns-in-Resolved
returns-in-Resolved c = record {
  own = (
    c.settle.ensures.of,
    ap (λ (f : ℕ → Bool). f c.args.who) c.settle.ensures.answer.0.same.callers
        ∙ c.look_at.ensures.own.1,
  );
}
