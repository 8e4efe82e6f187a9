use Rattle.std.proofs.Common.{sym, ap, ◌∙◌, refl, subst, arith}
use Rattle.word_rules.specs.declared.cell_word.CellState.TheVariants as cell
use Rattle.word_rules.specs.declared.cell_word.CellWord.{CellWord}
use Rattle.cell_words.specs.declared.found.At.{At}
use Rattle.word_rules.specs.Codes.{packed_cell}
use Rattle.cell_words.specs.Hubs.{shape_of, seen_by}
use Rattle.cell_words.specs.Answers.{OfferAt}
use Rattle.cell_words.proofs.OneNumberOneWord.{number_within}
use Rattle.cell_words.proofs.MayExchange.{may_as, offers}
use Rattle.cell_words.proofs.LooksAtCells.{own_word, missed_offer}
use Rattle.cell_words.proofs.placing.hold_at.Goals as goal

pub exchange_cell-requires-clause-may : goal.exchange_cell-requires-clause-may
exchange_cell-requires-clause-may c =
    let shape = shape_of c.args.hub.now in
    let n = number_within shape c.args.c c.args.place c.requires.at.0 (omega (arith, c.requires.at.1)) in
    let f = c.args.hub.now.sized.few in
    may_as shape _ _ _ _ _ _ _ (seen_by c.args.pass.now) refl c.free_cell.ensures.zero
    (ap (λ (z : CellWord). packed_cell z) (c.own_cell-new.ensures.word
    ∙ own_word shape c.args.c c.args.place c.args.value c.args.who cell.Offer))
    (offers shape (seen_by c.args.pass.now) c.args.who c.args.c c.args.place c.requires.own.1 c.requires.at.0 c.args.value c.requires.at.1
    c.ranges.who.fits (omega arith) c.ranges.value.fits c.requires.kind c.requires.low)

pub returns-in-Some-clause-at : goal.returns-in-Some-clause-at
returns-in-Some-clause-at c = let t = c.in-Some.ensures.told in
    subst (λ (z : At). OfferAt (shape_of c.args.hub.now) c.args.who c.args.c c.args.place c.args.value (seen_by c.args.pass.now)
    (seen_by c.exchange_cell.new.pass) z) (sym c.found_by_sender.ensures)
    (missed_offer c.args.hub.now c.exchange_cell.new.pass c.exchange_cell.ensures.own.0 c.args.c c.args.place (seen_by c.args.pass.now)
    t.0 c.in-Some.found t.1 c.requires.low _ c.free_cell.ensures.zero t.2 c.args.who c.args.value)
