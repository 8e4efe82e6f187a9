use Rattle.std.proofs.Common.{◌∙◌, sym, ap, refl, subst}
use Rattle.co_base.specs.declared.names.WaitId.{WaitId}
use Rattle.channel_model.specs.declared.acts.Act.TheVariants.{Offer}
use Rattle.word_rules.specs.declared.cell_word.CellState.TheVariants as cell
use Rattle.word_rules.specs.declared.cell_word.CellWord.{CellWord}
use Rattle.cell_words.specs.declared.found.At.{At}
use Rattle.word_rules.specs.Codes.{packed_cell}
use Rattle.cell_words.specs.Hubs.{shape_of, seen_by}
use Rattle.cell_words.specs.Seen.{Makes}
use Rattle.cell_words.specs.Clauses.{ClauseOfferAt}
use Rattle.cell_words.proofs.MayExchange.{may_by}
use Rattle.cell_words.proofs.LooksAtCells.{missed_offer}
use Rattle.cell_words.proofs.ClausesPlaced.{clause_offers, clause_word_is, clause_high, main_cell}
use Rattle.cell_words.proofs.StandsAtPlaces.{clause_offer_found}
use Rattle.cell_words.proofs.registering.hold_clause_at.Goals as goal

pub clause_cell-new-requires-clause-clause : goal.clause_cell-new-requires-clause-clause
clause_cell-new-requires-clause-clause c = clause_high (shape_of c.args.hub.now) c.args.who c.args.clause c.args.c c.args.main
    (seen_by c.args.pass.now).seen c.requires.may

pub clause_cell-new-requires-clause-main : goal.clause_cell-new-requires-clause-main
clause_cell-new-requires-clause-main c = main_cell (shape_of c.args.hub.now) c.args.who c.args.clause c.args.c c.args.main
    (seen_by c.args.pass.now).seen c.requires.may

pub exchange_cell-requires-clause-may : goal.exchange_cell-requires-clause-may
exchange_cell-requires-clause-may c =
    let shape = shape_of c.args.hub.now in
    may_by shape _ _ _ _ _ _ _ _ (seen_by c.args.pass.now) refl c.free_cell.ensures.zero
    (ap (λ (z : CellWord). packed_cell z) (c.clause_cell-new.ensures.word
    ∙ clause_word_is shape c.args.c c.args.place cell.Offer c.args.value c.args.who c.args.main c.args.clause c.requires.apart))
    (ap (λ (u : WaitId). record { who = c.args.who; act = Offer c.args.c c.args.place c.args.value u c.args.clause })
    c.main_at-wait.ensures)
    (clause_offers shape (seen_by c.args.pass.now) c.args.who c.args.c c.args.place c.args.clause c.args.main c.requires.own.1
    c.requires.at.0 c.requires.at.1 c.ranges.who.fits c.args.hub.now.sized.few c.requires.may
    c.args.value c.ranges.value.fits c.requires.kind c.requires.low)

pub returns-in-None-clause-at : goal.returns-in-None-clause-at
returns-in-None-clause-at c =
    subst (λ (u : WaitId). Makes (seen_by c.args.pass.now)
    (record { who = c.args.who; act = Offer c.args.c c.args.place c.args.value u c.args.clause }) (seen_by c.exchange_cell.new.pass))
    c.main_at-wait.ensures c.in-None.ensures.told.made

pub returns-in-Some-clause-at : goal.returns-in-Some-clause-at
returns-in-Some-clause-at c = let t = c.in-Some.ensures.told in
    subst (λ (z : At). ClauseOfferAt (shape_of c.args.hub.now) c.args.who c.args.c c.args.place c.args.main c.args.clause c.args.value
    (seen_by c.args.pass.now) (seen_by c.exchange_cell.new.pass) z) (sym c.found_by_sender.ensures)
    (clause_offer_found (shape_of c.args.hub.now) c.args.who c.args.c c.args.place c.args.clause c.args.value c.args.main c.in-Some.found
    c.in-Some.found.state (seen_by c.args.pass.now) (seen_by c.exchange_cell.new.pass)
    (missed_offer c.args.hub.now c.exchange_cell.new.pass c.exchange_cell.ensures.own.0 c.args.c c.args.place (seen_by c.args.pass.now)
    t.0 c.in-Some.found t.1 c.requires.low _ c.free_cell.ensures.zero t.2 c.args.who c.args.value))
