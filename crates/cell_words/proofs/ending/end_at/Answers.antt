use Rattle.std.proofs.Common.{sym, subst}
use Rattle.cell_words.specs.declared.found.End.{End}
use Rattle.cell_words.specs.Hubs.{shape_of, seen_by}
use Rattle.cell_words.specs.Answers.{EndAt}
use Rattle.cell_words.proofs.LooksAtCells.{hub_legal, end_is, given_seen}
use Rattle.cell_words.proofs.ending.end_at.Goals as goal

pub returns-clause-end : goal.returns-clause-end
returns-clause-end c =
    let shape = shape_of c.args.hub.now in
    let h = c.load_cell-word.ensures in
    let w = seen_by c.load_cell-word.new.pass in
    let l = hub_legal c.args.hub.now c.load_cell-word.new.pass h.own.0 in
    subst (λ (z : End). EndAt c.args.c c.args.place z w.seen) (sym c.end_found.ensures)
    (end_is shape c.args.c c.args.place w.seen l (given_seen shape c.args.place c.args.c (seen_by c.args.pass.now) w h.sees l
    c.requires.given) c.load_cell-word.result h.word)
