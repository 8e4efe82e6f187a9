use Rattle.std.proofs.Common.{ap, sym, subst}
use Rattle.word_rules.specs.declared.cell_word.CellState.{CellState}
use Rattle.cell_words.specs.declared.found.Holder.{Holder}
use Rattle.cell_words.specs.Hubs.{shape_of, seen_by}
use Rattle.cell_words.specs.Puts.{was_put}
use Rattle.cell_words.specs.Answers.{IsHolder}
use Rattle.cell_words.proofs.LooksAtCells.{hub_legal, sees_then}
use Rattle.cell_words.proofs.WalksCount.{OfferCell, state_offer}
use Rattle.cell_words.proofs.CountsOfDecided.{fate_waits, fate_put}
use Rattle.cell_words.proofs.decided.fate_by_cell.Goals as goal

pub load_wait-wait-requires-clause-number : goal.load_wait-wait-requires-clause-number
load_wait-wait-requires-clause-number c =
    let shape = shape_of c.args.hub.now in
    let o : OfferCell shape c.args.c c.args.place c.load_cell-word.result (seen_by c.load_cell-word.new.pass).seen =
    state_offer shape c.args.c c.args.place (seen_by c.load_cell-word.new.pass).seen c.load_cell-word.result
    c.load_cell-word.ensures.word c.in-Offer.is in
    record {
      wait = o.wait;
      at = (o.fits.channel, o.fits.place);
      is =
          c.wait_cell-cell.ensures o.who o.wait (subst (λ (z : Holder). IsHolder shape c.args.c c.args.place z o.who o.wait)
          (sym c.holder_of.ensures) o.holder);
    }

pub returns-in-Buffered-clause-fate : goal.returns-in-Buffered-clause-fate
returns-in-Buffered-clause-fate c b e =
    fate_put (shape_of c.args.hub.now) c.args.c c.args.place (seen_by c.load_cell-word.new.pass).seen c.load_cell-word.result
    c.requires.never c.load_cell-word.ensures.word (ap (λ (s : CellState). was_put s) c.in-Buffered.is) b e

pub returns-in-Emptied-clause-fate : goal.returns-in-Emptied-clause-fate
returns-in-Emptied-clause-fate c b e =
    fate_put (shape_of c.args.hub.now) c.args.c c.args.place (seen_by c.load_cell-word.new.pass).seen c.load_cell-word.result
    c.requires.never c.load_cell-word.ensures.word (ap (λ (s : CellState). was_put s) c.in-Emptied.is) b e

pub returns-in-Offer-clause-sees : goal.returns-in-Offer-clause-sees
returns-in-Offer-clause-sees c = sees_then (seen_by c.args.pass.now) (seen_by c.load_cell-word.new.pass) (seen_by c.load_wait-wait.new.pass)
    c.load_cell-word.ensures.sees c.load_wait-wait.ensures.sees

pub returns-in-Offer-clause-fate : goal.returns-in-Offer-clause-fate
returns-in-Offer-clause-fate c b e =
    let shape = shape_of c.args.hub.now in
    let h = c.load_cell-word.ensures in
    let w = c.load_wait-wait.ensures in
    let o : OfferCell shape c.args.c c.args.place c.load_cell-word.result (seen_by c.load_cell-word.new.pass).seen =
    state_offer shape c.args.c c.args.place (seen_by c.load_cell-word.new.pass).seen c.load_cell-word.result h.word c.in-Offer.is in
    fate_waits shape c.args.c c.args.place o.value o.who c.load_cell-word.result.clause o.wait c.load_wait-wait.result
    (seen_by c.load_cell-word.new.pass) (seen_by c.load_wait-wait.new.pass) w.sees
    (hub_legal c.args.hub.now c.load_wait-wait.new.pass w.own.0) o.cell
    (w.word o.wait (o.fits.channel, o.fits.place) (c.wait_cell-cell.ensures o.who o.wait
    (subst (λ (z : Holder). IsHolder shape c.args.c c.args.place z o.who o.wait) (sym c.holder_of.ensures) o.holder)))
    c.kept_told.result c.kept_told.ensures b e
