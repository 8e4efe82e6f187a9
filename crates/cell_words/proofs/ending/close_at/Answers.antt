use Rattle.std.proofs.Common.{sym, ap, refl, subst}
use Rattle.word_rules.specs.declared.cell_word.CellWord.{CellWord}
use Rattle.cell_words.specs.declared.found.End.{End}
use Rattle.word_rules.specs.Codes.{packed_cell}
use Rattle.cell_words.specs.Hubs.{shape_of, seen_by}
use Rattle.cell_words.specs.Answers.{CloseAt}
use Rattle.cell_words.proofs.MayExchange.{may_as, closes}
use Rattle.cell_words.proofs.LooksAtCells.{hub_legal, close_found, number_not, given_seen}
use Rattle.cell_words.proofs.ending.close_at.Goals as goal

pub exchange_cell-requires-clause-may : goal.exchange_cell-requires-clause-may
exchange_cell-requires-clause-may c =
    may_as (shape_of c.args.hub.now) _ _ _ _ _ _ _ (seen_by c.args.pass.now) refl c.free_cell.ensures.zero
    (ap (λ (z : CellWord). packed_cell z) c.plain_cell-new.ensures.word)
    (closes (shape_of c.args.hub.now) (seen_by c.args.pass.now) c.args.who c.args.c c.args.place c.requires.own.1 c.requires.at.0
    c.args.value c.requires.at.1 c.ranges.value.fits c.requires.given)

pub returns-in-Some-clause-end : goal.returns-in-Some-clause-end
returns-in-Some-clause-end c =
    let shape = shape_of c.args.hub.now in
    let v = seen_by c.args.pass.now in
    let w = seen_by c.exchange_cell.new.pass in
    let l = hub_legal c.args.hub.now c.exchange_cell.new.pass c.exchange_cell.ensures.own.0 in
    let t = c.in-Some.ensures.told in
    subst (λ (z : End). CloseAt c.args.who c.args.c c.args.place c.args.value v w z) (sym c.end_found.ensures)
    (close_found shape c.args.who c.args.c c.args.place c.args.value v w t.0 l
    (given_seen shape c.args.place c.args.c v w t.0 l c.requires.given) c.in-Some.found t.1
    (number_not shape c.args.c c.args.place w.seen c.in-Some.found _ t.1 c.free_cell.ensures.zero t.2))
