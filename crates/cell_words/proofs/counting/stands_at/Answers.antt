use Rattle.std.proofs.Common.{sym, subst}
use Rattle.cell_words.specs.declared.found.Holder.{Holder}
use Rattle.cell_words.specs.Hubs.{shape_of, seen_by}
use Rattle.cell_words.specs.Answers.{IsHolder}
use Rattle.cell_words.proofs.LooksAtCells.{hub_legal, sees_then}
use Rattle.cell_words.proofs.WalksCount.{OfferCell, state_offer, state_buffered, stood_seen, wait_told}
use Rattle.cell_words.proofs.counting.stands_at.Goals as goal

pub load_wait-wait-requires-clause-number : goal.load_wait-wait-requires-clause-number
load_wait-wait-requires-clause-number c =
    let shape = shape_of c.args.hub.now in
    let o : OfferCell shape c.args.c c.args.place c.load_cell-word.result (seen_by c.load_cell-word.new.pass).seen =
    state_offer shape c.args.c c.args.place (seen_by c.load_cell-word.new.pass).seen c.load_cell-word.result
    c.load_cell-word.ensures.word c.in-Offer.is in
    record {
      wait = o.wait;
      at = (o.fits.channel, o.fits.place);
      is =
          c.wait_cell-cell.ensures o.who o.wait (subst (λ (z : Holder). IsHolder shape c.args.c c.args.place z o.who o.wait)
          (sym c.holder_of.ensures) o.holder);
    }

pub returns-in-Buffered-clause-stands : goal.returns-in-Buffered-clause-stands
returns-in-Buffered-clause-stands c =
    let shape = shape_of c.args.hub.now in
    let h = c.load_cell-word.ensures in
    stood_seen shape c.args.c c.args.place (seen_by c.args.pass.now) (seen_by c.load_cell-word.new.pass) h.sees
    (hub_legal c.args.hub.now c.args.pass.now c.requires.own.0) (hub_legal c.args.hub.now c.load_cell-word.new.pass h.own.0)
    c.requires.given
    (state_buffered shape c.args.c c.args.place (seen_by c.load_cell-word.new.pass).seen c.load_cell-word.result h.word c.in-Buffered.is)

pub returns-in-Offer-clause-sees : goal.returns-in-Offer-clause-sees
returns-in-Offer-clause-sees c = sees_then (seen_by c.args.pass.now) (seen_by c.load_cell-word.new.pass) (seen_by c.load_wait-wait.new.pass)
    c.load_cell-word.ensures.sees c.load_wait-wait.ensures.sees

pub returns-in-Offer-clause-stands : goal.returns-in-Offer-clause-stands
returns-in-Offer-clause-stands c =
    let shape = shape_of c.args.hub.now in
    let h = c.load_cell-word.ensures in
    let w = c.load_wait-wait.ensures in
    let o : OfferCell shape c.args.c c.args.place c.load_cell-word.result (seen_by c.load_cell-word.new.pass).seen =
    state_offer shape c.args.c c.args.place (seen_by c.load_cell-word.new.pass).seen c.load_cell-word.result h.word c.in-Offer.is in
    wait_told shape c.args.c c.args.place o.value o.who c.load_cell-word.result.clause o.wait c.load_wait-wait.result
    (seen_by c.args.pass.now) (seen_by c.load_cell-word.new.pass) (seen_by c.load_wait-wait.new.pass) h.sees w.sees
    (hub_legal c.args.hub.now c.args.pass.now c.requires.own.0) (hub_legal c.args.hub.now c.load_cell-word.new.pass h.own.0)
    (hub_legal c.args.hub.now c.load_wait-wait.new.pass w.own.0) c.requires.given o.cell
    (w.word o.wait (o.fits.channel, o.fits.place) (c.wait_cell-cell.ensures o.who o.wait
    (subst (λ (z : Holder). IsHolder shape c.args.c c.args.place z o.who o.wait) (sym c.holder_of.ensures) o.holder)))
    c.lets_stand.result c.lets_stand.ensures
