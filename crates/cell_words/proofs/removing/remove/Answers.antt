use Rattle.std.proofs.Common.{ℕ, ◌+◌, ◌*◌, Some, sym, ap, ◌∙◌, subst}
use Rattle.word_rules.specs.declared.wait_word.WaitWord.{WaitWord}
use Rattle.word_rules.specs.Codes.{packed_wait}
use Rattle.cell_words.specs.Hubs.{shape_of, seen_by}
use Rattle.cell_words.specs.Answers.{RemovesFrom, RemoveAnswer}
use Rattle.cell_words.proofs.MayExchange.{may_by, removes}
use Rattle.cell_words.proofs.LooksAtCells.{hub_legal, below_seen, sees_then}
use Rattle.cell_words.proofs.ExchangesTell.{sees_turns, turns_by, take_told}
use Rattle.cell_words.proofs.WaitsResolved.{offer_seen, resolved_word, take_tried, held_seen_may, somebody_word}
use Rattle.cell_words.proofs.removing.remove.Goals as goal

pub returns-in-None-clause-tried : goal.returns-in-None-clause-tried
returns-in-None-clause-tried c =
    let shape = shape_of c.args.hub.now in
    let h = c.requires.first.held in
    let o = c.owner_of.ensures in
    let v = seen_by c.args.pass.now in
    let w = seen_by c.load_wait-word.new.pass in
    let l = hub_legal c.args.hub.now c.load_wait-word.new.pass c.load_wait-word.ensures.own.0 in
    let s = c.load_wait-word.ensures.sees in
    let is = c.load_wait-word.ensures.word h.wait (h.fits.channel, h.fits.place) (c.wait_cell-cell.ensures h.who h.wait h.holder) in
    subst (RemoveAnswer c.args.removal shape c.args.who c.args.c c.args.place c.args.waiter v w) (sym c.tried_found.ensures)
    (take_tried c.args.removal shape v w c.args.who c.args.c c.args.place c.args.waiter l
    (sees_then v (seen_by c.owner_of.new.pass) w o.sees s) c.requires.low c.requires.first c.load_wait-word.result is
    (resolved_word shape h.wait (seen_by c.owner_of.new.pass) w c.load_wait-word.result s l (c.in-None.ensures.owner h) is))

pub exchange_wait-requires-clause-may : goal.exchange_wait-requires-clause-may
exchange_wait-requires-clause-may c =
    let shape = shape_of c.args.hub.now in
    let h = c.requires.first.held in
    let o = c.owner_of.ensures in
    let v = seen_by c.args.pass.now in
    let w = seen_by c.load_wait-seen.new.pass in
    let q = c.load_wait-seen.ensures in
    let s = sees_then v (seen_by c.owner_of.new.pass) w o.sees q.sees in
    let l = hub_legal c.args.hub.now c.load_wait-seen.new.pass q.own.0 in
    may_by shape _ _ _ _ _ _ _ _ w (ap (λ (n : ℕ). 2 * n + 1) (sym (c.wait_cell-cell.ensures h.who h.wait h.holder)))
    c.standing_wait.ensures.zero (ap (λ (z : WaitWord). packed_wait z) c.removed_wait-new.ensures.word) c.removal_entry-entry.ensures
    (removes shape w c.args.who c.args.c c.args.place q.own.1 c.requires.at.0 c.args.removal c.args.waiter.value h.who c.args.waiter.clause
    h.wait (held_seen_may shape c.args.removal c.args.c v w s l c.requires.may) h.fits
    (below_seen shape 0 c.args.place c.args.c v w s l c.requires.low)
    (offer_seen shape c.args.c c.args.place c.args.waiter.value h.who c.args.waiter.clause h.wait v w s l c.requires.first.cell))

pub returns-in-None-exchange_wait-clause-tried : goal.returns-in-None-exchange_wait-clause-tried
returns-in-None-exchange_wait-clause-tried c =
    let shape = shape_of c.args.hub.now in
    let h = c.requires.first.held in
    let o = c.owner_of.ensures in
    let v = seen_by c.args.pass.now in
    let w = seen_by c.exchange_wait.new.pass in
    let l = hub_legal c.args.hub.now c.exchange_wait.new.pass c.exchange_wait.ensures.own.0 in
    subst (λ (t : ℕ). RemovesFrom c.args.removal c.args.who c.args.c c.args.place c.args.waiter.value (Some t) v w)
    (sym (c.in-Some.ensures.owner h))
    (take_told shape v w l c.args.who c.args.c c.args.place c.wait_cell-cell.result _ c.standing_wait.ensures.zero c.requires.at.0
    c.args.removal c.args.waiter.value h.who c.args.waiter.clause h.wait h.fits (c.wait_cell-cell.ensures h.who h.wait h.holder)
    c.requires.low c.requires.first.cell
    (sees_turns shape _ _ _ v (seen_by c.load_wait-seen.new.pass) w
    (sees_then v (seen_by c.owner_of.new.pass) (seen_by c.load_wait-seen.new.pass) o.sees c.load_wait-seen.ensures.sees)
    (turns_by shape _ _ _ _ (seen_by c.load_wait-seen.new.pass) w c.removal_entry-entry.ensures c.in-None-exchange_wait.ensures.told)))

pub returns-in-Some-exchange_wait-clause-tried : goal.returns-in-Some-exchange_wait-clause-tried
returns-in-Some-exchange_wait-clause-tried c =
    let shape = shape_of c.args.hub.now in
    let h = c.requires.first.held in
    let o = c.owner_of.ensures in
    let v = seen_by c.args.pass.now in
    let w = seen_by c.exchange_wait.new.pass in
    let l = hub_legal c.args.hub.now c.exchange_wait.new.pass c.exchange_wait.ensures.own.0 in
    let t = c.in-Some-exchange_wait.ensures.told in
    subst (RemoveAnswer c.args.removal shape c.args.who c.args.c c.args.place c.args.waiter v w)
    (sym c.tried_found-in-Some-exchange_wait.ensures)
    (take_tried c.args.removal shape v w c.args.who c.args.c c.args.place c.args.waiter l
    (sees_then v (seen_by c.load_wait-seen.new.pass) w (sees_then v (seen_by c.owner_of.new.pass) (seen_by c.load_wait-seen.new.pass)
    o.sees c.load_wait-seen.ensures.sees) t.0) c.requires.low c.requires.first c.in-Some-exchange_wait.found
    (t.1 h.wait (h.fits.channel, h.fits.place) (c.wait_cell-cell.ensures h.who h.wait h.holder))
    (λ z. t.2 (z ∙ sym c.standing_wait.ensures.zero)))

pub returns-then-not-is_nobody-clause-tried : goal.returns-then-not-is_nobody-clause-tried
returns-then-not-is_nobody-clause-tried c =
    let shape = shape_of c.args.hub.now in
    let h = c.requires.first.held in
    let o = c.owner_of.ensures in
    let v = seen_by c.args.pass.now in
    let w = seen_by c.load_wait-seen.new.pass in
    let l = hub_legal c.args.hub.now c.load_wait-seen.new.pass c.load_wait-seen.ensures.own.0 in
    let s = c.load_wait-seen.ensures.sees in
    let is = c.load_wait-seen.ensures.word h.wait (h.fits.channel, h.fits.place) (c.wait_cell-cell.ensures h.who h.wait h.holder) in
    subst (RemoveAnswer c.args.removal shape c.args.who c.args.c c.args.place c.args.waiter v w)
    (sym c.tried_found-then-not-is_nobody.ensures)
    (take_tried c.args.removal shape v w c.args.who c.args.c c.args.place c.args.waiter l
    (sees_then v (seen_by c.owner_of.new.pass) w o.sees s) c.requires.low c.requires.first c.load_wait-seen.result is
    (somebody_word c.load_wait-seen.result c.is_nobody.result c.is_nobody.ensures c.if-not-is_nobody.true))
