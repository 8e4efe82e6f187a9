use Rattle.cell_words.specs.Hubs.{shape_of, seen_by}
use Rattle.cell_words.proofs.LooksAtCells.{hub_legal}
use Rattle.cell_words.proofs.StandsAtPlaces.{offer_told}
use Rattle.cell_words.proofs.registering.offer_stands.Goals as goal

pub returns-clause-stands : goal.returns-clause-stands
returns-clause-stands c =
    let h = c.stands_at.ensures in
    offer_told (shape_of c.args.hub.now) c.args.c c.args.place (seen_by c.args.pass.now) (seen_by c.stands_at.new.pass)
    (hub_legal c.args.hub.now c.args.pass.now c.requires.own.0) (hub_legal c.args.hub.now c.stands_at.new.pass h.own.0) h.sees
    c.requires.low c.requires.given c.stands_at.result h.stands
