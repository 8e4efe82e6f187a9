use Rattle.std.proofs.Common.{sym, ◌∙◌, subst}
use Rattle.cell_words.specs.declared.found.At.{At}
use Rattle.cell_words.specs.Hubs.{shape_of, seen_by}
use Rattle.cell_words.specs.Clauses.{ClauseOfferAt}
use Rattle.cell_words.proofs.LooksAtCells.{hub_legal, used_offer, spent_offer, unused_free, below_seen, less_places, state_free}
use Rattle.cell_words.proofs.ClausesPlaced.{may_seen, elsewhere}
use Rattle.cell_words.proofs.StandsAtPlaces.{clause_offer_found, clause_offer_later}
use Rattle.cell_words.proofs.registering.offer_clause_at.Goals as goal

pub returns-then-is_used-clause-at : goal.returns-then-is_used-clause-at
returns-then-is_used-clause-at c = let h = c.load_cell-word.ensures in
    subst (λ (z : At). ClauseOfferAt (shape_of c.args.hub.now) c.args.who c.args.c c.args.place c.args.main c.args.clause c.args.value
    (seen_by c.args.pass.now) (seen_by c.load_cell-word.new.pass) z) (sym c.found_by_sender.ensures)
    (clause_offer_found (shape_of c.args.hub.now) c.args.who c.args.c c.args.place c.args.clause c.args.value c.args.main
    c.load_cell-word.result c.load_cell-word.result.state (seen_by c.args.pass.now) (seen_by c.load_cell-word.new.pass)
    (used_offer c.args.hub.now c.load_cell-word.new.pass h.own.0 c.args.c c.args.place (seen_by c.args.pass.now) h.sees
    c.load_cell-word.result h.word c.requires.low (sym c.is_used.ensures ∙ c.if-is_used.true) c.args.who c.args.value))

pub returns-then-place-places_of-clause-at : goal.returns-then-place-places_of-clause-at
returns-then-place-places_of-clause-at c = let h = c.load_cell-word.ensures in
    spent_offer c.args.hub.now c.load_cell-word.new.pass h.own.0 c.args.c c.args.place (seen_by c.args.pass.now) h.sees
    c.load_cell-word.result h.word c.requires.low (sym c.is_used.ensures ∙ c.if-is_used.false) (c.if-place-places_of.true
    ∙ c.places_of.ensures)

pub hold_clause_at-requires-clause-at : goal.hold_clause_at-requires-clause-at
hold_clause_at-requires-clause-at c = (
  c.requires.at.0,
  less_places (shape_of c.args.hub.now) c.args.c c.args.place c.places_of.result c.requires.at.1 c.places_of.ensures
      c.if-place-places_of.false,
)

pub hold_clause_at-requires-clause-low : goal.hold_clause_at-requires-clause-low
hold_clause_at-requires-clause-low c =
    let h = c.load_cell-word.ensures in
    below_seen (shape_of c.args.hub.now) c.args.place 0 c.args.c (seen_by c.args.pass.now) (seen_by c.load_cell-word.new.pass) h.sees
    (hub_legal c.args.hub.now c.load_cell-word.new.pass h.own.0) c.requires.low

pub hold_clause_at-requires-clause-may : goal.hold_clause_at-requires-clause-may
hold_clause_at-requires-clause-may c =
    let h = c.load_cell-word.ensures in
    may_seen (shape_of c.args.hub.now) c.args.who c.args.clause c.args.c c.args.main (seen_by c.args.pass.now)
    (seen_by c.load_cell-word.new.pass) c.requires.own.1 h.sees (hub_legal c.args.hub.now c.load_cell-word.new.pass h.own.0)
    c.requires.may

pub hold_clause_at-requires-clause-apart : goal.hold_clause_at-requires-clause-apart
hold_clause_at-requires-clause-apart c =
    let shape = shape_of c.args.hub.now in
    let v = seen_by c.args.pass.now in
    let w = seen_by c.load_cell-word.new.pass in
    let h = c.load_cell-word.ensures in
    let l = hub_legal c.args.hub.now c.load_cell-word.new.pass h.own.0 in
    elsewhere shape c.args.who c.args.clause c.args.c c.args.place c.args.main w.seen l
    (below_seen shape c.args.place 0 c.args.c v w h.sees l c.requires.low).given
    (state_free shape c.args.c c.args.place c.load_cell-word.result _ h.word.0
    (unused_free c.load_cell-word.result.state (sym c.is_used.ensures ∙ c.if-is_used.false)))
    (may_seen shape c.args.who c.args.clause c.args.c c.args.main v w c.requires.own.1 h.sees l c.requires.may)

pub returns-clause-at : goal.returns-clause-at
returns-clause-at c = clause_offer_later (shape_of c.args.hub.now) c.args.who c.args.c c.args.place c.args.clause c.args.value c.args.main
    (seen_by c.args.pass.now) (seen_by c.load_cell-word.new.pass) (seen_by c.hold_clause_at.new.pass) c.load_cell-word.ensures.sees
    c.hold_clause_at.result c.hold_clause_at.ensures.at
