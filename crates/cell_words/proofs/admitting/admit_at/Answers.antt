use Rattle.std.proofs.Common.{ℕ, ◌+◌, ◌*◌, sym, ap, refl, ◌∙◌, subst}
use Rattle.cell_words.specs.Hubs.{shape_of, seen_by}
use Rattle.cell_words.specs.Answers.{Admits, AdmitAt}
use Rattle.cell_words.proofs.MayExchange.{may_as}
use Rattle.cell_words.proofs.LooksAtCells.{hub_legal, given_seen, sees_then}
use Rattle.cell_words.proofs.ExchangesTell.{sees_turns}
use Rattle.cell_words.proofs.WaitsResolved.{offer_seen, resolved_word}
use Rattle.cell_words.proofs.OffersMayBeAdmitted.{admits, admit_told, admit_tried, offer_given, room_seen}
use Rattle.cell_words.proofs.admitting.admit_at.Goals as goal

pub returns-in-None-clause-admitted : goal.returns-in-None-clause-admitted
returns-in-None-clause-admitted c =
    let shape = shape_of c.args.hub.now in
    let h = c.requires.held.held in
    let o = c.owner_of.ensures in
    let v = seen_by c.args.pass.now in
    let w = seen_by c.load_wait-word.new.pass in
    let l = hub_legal c.args.hub.now c.load_wait-word.new.pass c.load_wait-word.ensures.own.0 in
    let s = c.load_wait-word.ensures.sees in
    let is = c.load_wait-word.ensures.word h.wait (h.fits.channel, h.fits.place) (c.wait_cell-cell.ensures h.who h.wait h.holder) in
    subst (AdmitAt shape c.args.who c.args.c c.args.place c.args.waiter v w) (sym c.admission_found.ensures)
    (admit_tried shape v w c.args.who c.args.c c.args.place c.args.waiter l (sees_then v (seen_by c.owner_of.new.pass) w o.sees s)
    c.requires.held c.load_wait-word.result is
    (resolved_word shape h.wait (seen_by c.owner_of.new.pass) w c.load_wait-word.result s l (c.in-None.ensures.owner h) is))

pub exchange_wait-requires-clause-may : goal.exchange_wait-requires-clause-may
exchange_wait-requires-clause-may c =
    let shape = shape_of c.args.hub.now in
    let h = c.requires.held.held in
    let o = c.owner_of.ensures in
    let v = seen_by c.args.pass.now in
    let w = seen_by c.owner_of.new.pass in
    let lv = hub_legal c.args.hub.now c.args.pass.now c.requires.own.0 in
    let l = hub_legal c.args.hub.now c.owner_of.new.pass o.own.0 in
    let given = offer_given shape c.args.c c.args.place c.args.waiter v.seen lv c.requires.held in
    may_as shape _ _ _ _ _ _ _ w (ap (λ (n : ℕ). 2 * n + 1) (sym (c.wait_cell-cell.ensures h.who h.wait h.holder)))
    c.standing_wait.ensures.zero refl
    (admits shape w c.args.who c.args.c c.args.place c.args.waiter.value h.who c.args.waiter.clause h.wait o.own.1 c.requires.at.0 l h.fits
    (given_seen shape c.args.place c.args.c v w o.sees l given)
    (room_seen shape c.args.c c.args.place v w o.sees lv l given c.requires.room)
    (offer_seen shape c.args.c c.args.place c.args.waiter.value h.who c.args.waiter.clause h.wait v w o.sees l c.requires.held.cell))

pub returns-in-None-exchange_wait-clause-admitted : goal.returns-in-None-exchange_wait-clause-admitted
returns-in-None-exchange_wait-clause-admitted c =
    let shape = shape_of c.args.hub.now in
    let h = c.requires.held.held in
    let o = c.owner_of.ensures in
    let v = seen_by c.args.pass.now in
    let w = seen_by c.exchange_wait.new.pass in
    let l = hub_legal c.args.hub.now c.exchange_wait.new.pass c.exchange_wait.ensures.own.0 in
    subst (λ (t : ℕ). Admits c.args.who c.args.c c.args.place t v w) (sym (c.in-Some.ensures.owner h))
    (admit_told shape v w c.args.who c.args.c c.args.place c.wait_cell-cell.result _ c.args.waiter.value h.who c.args.waiter.clause h.wait l
    c.standing_wait.ensures.zero h.fits (c.wait_cell-cell.ensures h.who h.wait h.holder) c.requires.held.cell
    (sees_turns shape _ _ _ v (seen_by c.owner_of.new.pass) w o.sees c.in-None-exchange_wait.ensures.told))

pub returns-in-Some-exchange_wait-clause-admitted : goal.returns-in-Some-exchange_wait-clause-admitted
returns-in-Some-exchange_wait-clause-admitted c =
    let shape = shape_of c.args.hub.now in
    let h = c.requires.held.held in
    let o = c.owner_of.ensures in
    let v = seen_by c.args.pass.now in
    let w = seen_by c.exchange_wait.new.pass in
    let l = hub_legal c.args.hub.now c.exchange_wait.new.pass c.exchange_wait.ensures.own.0 in
    let t = c.in-Some-exchange_wait.ensures.told in
    subst (AdmitAt shape c.args.who c.args.c c.args.place c.args.waiter v w) (sym c.admission_found-in-Some-exchange_wait.ensures)
    (admit_tried shape v w c.args.who c.args.c c.args.place c.args.waiter l (sees_then v (seen_by c.owner_of.new.pass) w o.sees t.0)
    c.requires.held c.in-Some-exchange_wait.found (t.1 h.wait (h.fits.channel, h.fits.place)
    (c.wait_cell-cell.ensures h.who h.wait h.holder))
    (λ e. t.2 (e ∙ sym c.standing_wait.ensures.zero)))
