use Rattle.std.proofs.Common.{sym, ap, ◌∙◌, refl, subst, arith}
use Rattle.word_rules.specs.declared.cell_word.CellState.TheVariants as cell
use Rattle.word_rules.specs.declared.cell_word.CellWord.{CellWord}
use Rattle.cell_words.specs.declared.found.At.{At}
use Rattle.word_rules.specs.Codes.{packed_cell}
use Rattle.cell_words.specs.Hubs.{shape_of, seen_by}
use Rattle.cell_words.specs.Answers.{ReceiveAt}
use Rattle.cell_words.proofs.OneNumberOneWord.{number_within}
use Rattle.cell_words.proofs.MayExchange.{may_as, awaits_at}
use Rattle.cell_words.proofs.LooksAtCells.{hub_legal, own_word, used_receive, spent_receive, below_seen, less_places, sees_then, sees_makes, missed_receive}
use Rattle.cell_words.proofs.placing.await_at.Goals as goal

pub returns-then-is_used-clause-at : goal.returns-then-is_used-clause-at
returns-then-is_used-clause-at c = let h = c.load_cell-word.ensures in
    subst (λ (z : At). ReceiveAt (shape_of c.args.hub.now) c.args.who c.args.c c.args.place (seen_by c.args.pass.now)
    (seen_by c.load_cell-word.new.pass) z) (sym c.found_by_receiver.ensures)
    (used_receive c.args.hub.now c.load_cell-word.new.pass h.own.0 c.args.c c.args.place (seen_by c.args.pass.now) h.sees
    c.load_cell-word.result h.word c.requires.low (sym c.is_used.ensures ∙ c.if-is_used.true) c.args.who)

pub returns-then-place-places_of-clause-at : goal.returns-then-place-places_of-clause-at
returns-then-place-places_of-clause-at c = let h = c.load_cell-word.ensures in
    spent_receive c.args.hub.now c.load_cell-word.new.pass h.own.0 c.args.c c.args.place (seen_by c.args.pass.now) h.sees
    c.load_cell-word.result h.word c.requires.low (sym c.is_used.ensures ∙ c.if-is_used.false) (c.if-place-places_of.true
    ∙ c.places_of.ensures)

pub exchange_cell-requires-clause-may : goal.exchange_cell-requires-clause-may
exchange_cell-requires-clause-may c =
    let shape = shape_of c.args.hub.now in
    let v = seen_by c.args.pass.now in
    let w = seen_by c.load_cell-word.new.pass in
    let h = c.load_cell-word.ensures in
    let l = hub_legal c.args.hub.now c.load_cell-word.new.pass h.own.0 in
    let n = number_within shape c.args.c c.args.place c.requires.at.0 c.requires.at.1 in
    let f = c.args.hub.now.sized.few in
    may_as shape _ _ _ _ _ _ _ w refl c.free_cell.ensures.zero
    (ap (λ (z : CellWord). packed_cell z) (c.own_cell-new.ensures.word
    ∙ own_word shape c.args.c c.args.place 0 c.args.who cell.Receiver))
    (awaits_at shape w c.args.who c.args.c c.args.place h.own.1 c.requires.at.0
    (less_places shape c.args.c c.args.place c.places_of.result c.requires.at.1 c.places_of.ensures c.if-place-places_of.false)
    c.ranges.who.fits (omega arith)
    (below_seen shape 0 c.args.place c.args.c v w h.sees l c.requires.low))

pub returns-in-None-clause-at : goal.returns-in-None-clause-at
returns-in-None-clause-at c = sees_makes (seen_by c.args.pass.now) (seen_by c.load_cell-word.new.pass) (seen_by c.exchange_cell.new.pass) _
    c.load_cell-word.ensures.sees c.in-None.ensures.told.made

pub returns-in-Some-clause-at : goal.returns-in-Some-clause-at
returns-in-Some-clause-at c = let t = c.in-Some.ensures.told in
    subst (λ (z : At). ReceiveAt (shape_of c.args.hub.now) c.args.who c.args.c c.args.place (seen_by c.args.pass.now)
    (seen_by c.exchange_cell.new.pass) z) (sym c.found_by_receiver-in-Some.ensures)
    (missed_receive c.args.hub.now c.exchange_cell.new.pass c.exchange_cell.ensures.own.0 c.args.c c.args.place
    (seen_by c.args.pass.now) (sees_then (seen_by c.args.pass.now) (seen_by c.load_cell-word.new.pass)
    (seen_by c.exchange_cell.new.pass) c.load_cell-word.ensures.sees t.0) c.in-Some.found t.1 c.requires.low _ c.free_cell.ensures.zero
    t.2 c.args.who)
