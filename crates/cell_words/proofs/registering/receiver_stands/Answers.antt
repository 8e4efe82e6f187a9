use Rattle.cell_words.specs.Hubs.{shape_of, seen_by}
use Rattle.cell_words.proofs.LooksAtCells.{hub_legal}
use Rattle.cell_words.proofs.StandsAtPlaces.{receiver_told}
use Rattle.cell_words.proofs.registering.receiver_stands.Goals as goal

pub load_wait-word-requires-clause-number : goal.load_wait-word-requires-clause-number
load_wait-word-requires-clause-number c = let h = c.requires.first.held
    in record { wait = h.wait; at = (h.fits.channel, h.fits.place); is = c.wait_cell-cell.ensures h.who h.wait h.holder }

pub returns-clause-stands : goal.returns-clause-stands
returns-clause-stands c =
    let h = c.requires.first.held in
    let w = c.load_wait-word.ensures in
    receiver_told (shape_of c.args.hub.now) c.args.c c.args.place c.args.waiter (seen_by c.args.pass.now)
    (seen_by c.load_wait-word.new.pass) (hub_legal c.args.hub.now c.load_wait-word.new.pass w.own.0) w.sees c.requires.low
    c.requires.first
    c.load_wait-word.result (w.word h.wait (h.fits.channel, h.fits.place) (c.wait_cell-cell.ensures h.who h.wait h.holder)).0
    c.is_nobody.result c.is_nobody.ensures
