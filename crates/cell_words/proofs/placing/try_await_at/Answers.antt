use Rattle.std.proofs.Common.{sym, ◌∙◌, subst}
use Rattle.cell_words.specs.declared.found.At.{At}
use Rattle.cell_words.specs.Hubs.{shape_of, seen_by}
use Rattle.cell_words.specs.Answers.{TriedReceiveAt}
use Rattle.cell_words.proofs.LooksAtCells.{hub_legal, used_receive, unused_free, below_seen}
use Rattle.cell_words.proofs.WalksCount.{receive_tried, empty_to_try}
use Rattle.cell_words.proofs.placing.try_await_at.Goals as goal

pub returns-then-is_used-clause-at : goal.returns-then-is_used-clause-at
returns-then-is_used-clause-at c = let h = c.load_cell-word.ensures in
    subst (λ (z : At). TriedReceiveAt (shape_of c.args.hub.now) c.args.who c.args.c c.args.place (seen_by c.args.pass.now)
    (seen_by c.load_cell-word.new.pass) z) (sym c.found_by_receiver.ensures)
    (receive_tried (shape_of c.args.hub.now) c.args.who c.args.c c.args.place c.load_cell-word.result c.load_cell-word.result.state
    (seen_by c.args.pass.now) (seen_by c.load_cell-word.new.pass)
    (used_receive c.args.hub.now c.load_cell-word.new.pass h.own.0 c.args.c c.args.place (seen_by c.args.pass.now) h.sees
    c.load_cell-word.result h.word c.requires.low (sym c.is_used.ensures ∙ c.if-is_used.true) c.args.who))

pub returns-clause-at : goal.returns-clause-at
returns-clause-at c =
    let shape = shape_of c.args.hub.now in
    let v = seen_by c.args.pass.now in
    let w = seen_by c.load_cell-word.new.pass in
    let h = c.load_cell-word.ensures in
    let l = hub_legal c.args.hub.now c.load_cell-word.new.pass h.own.0 in (
      h.sees,
      empty_to_try shape c.args.c c.args.place c.load_cell-word.result w.seen l h.word
          (unused_free c.load_cell-word.result.state (sym c.is_used.ensures ∙ c.if-is_used.false))
          (below_seen shape 0 c.args.place c.args.c v w h.sees l c.requires.low),
    )
