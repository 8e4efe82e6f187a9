use Rattle.std.proofs.Common.{ℕ, ◌+◌, ◌*◌, sym, ap, refl, subst}
use Rattle.cell_words.specs.Hubs.{shape_of, seen_by}
use Rattle.cell_words.specs.Answers.{Wakes}
use Rattle.cell_words.proofs.MayExchange.{may_as}
use Rattle.cell_words.proofs.LooksAtCells.{hub_legal, below_seen}
use Rattle.cell_words.proofs.ExchangesTell.{sees_turns}
use Rattle.cell_words.proofs.WaitsResolved.{receiver_seen, receiver_resolved, receiver_missed}
use Rattle.cell_words.proofs.ReceiversOfClosedChannels.{wakes, wake_told, closed_seen}
use Rattle.cell_words.proofs.ending.wake.Goals as goal

pub returns-in-None-clause-woken : goal.returns-in-None-clause-woken
returns-in-None-clause-woken c = receiver_resolved c.args.hub.now c.owner_of.new.pass c.owner_of.ensures.own.0 c.args.c c.args.place
    c.args.waiter (seen_by c.args.pass.now) c.requires.low c.requires.first c.owner_of.ensures.sees
    (c.in-None.ensures.owner c.requires.first.held)

pub exchange_wait-requires-clause-may : goal.exchange_wait-requires-clause-may
exchange_wait-requires-clause-may c =
    let shape = shape_of c.args.hub.now in
    let h = c.requires.first.held in
    let o = c.owner_of.ensures in
    let v = seen_by c.args.pass.now in
    let w = seen_by c.owner_of.new.pass in
    let l = hub_legal c.args.hub.now c.owner_of.new.pass o.own.0 in
    may_as shape _ _ _ _ _ _ _ w (ap (λ (n : ℕ). 2 * n + 1) (sym (c.wait_cell-cell.ensures h.who h.wait h.holder)))
    c.standing_wait.ensures.zero refl
    (wakes shape w c.args.who c.args.c c.args.place c.args.value h.who c.args.waiter.clause h.wait o.own.1 c.requires.at.0
    c.ranges.value.fits h.fits (closed_seen shape c.args.c c.args.value v w o.sees l c.requires.closed)
    (below_seen shape c.args.place 0 c.args.c v w o.sees l c.requires.low)
    (receiver_seen shape c.args.c c.args.place h.who c.args.waiter.clause h.wait v w o.sees l c.requires.first.cell))

pub returns-in-None-exchange_wait-clause-woken : goal.returns-in-None-exchange_wait-clause-woken
returns-in-None-exchange_wait-clause-woken c =
    let shape = shape_of c.args.hub.now in
    let h = c.requires.first.held in
    let o = c.owner_of.ensures in
    let v = seen_by c.args.pass.now in
    let w = seen_by c.exchange_wait.new.pass in
    let l = hub_legal c.args.hub.now c.exchange_wait.new.pass c.exchange_wait.ensures.own.0 in
    subst (λ (t : ℕ). Wakes c.args.who c.args.c c.args.place t v w) (sym (c.in-Some.ensures.owner h))
    (wake_told shape v w c.args.who c.args.c c.args.place c.wait_cell-cell.result _ h.who c.args.waiter.clause h.wait l
    c.standing_wait.ensures.zero h.fits (c.wait_cell-cell.ensures h.who h.wait h.holder) c.requires.low c.requires.first.cell
    (sees_turns shape _ _ _ v (seen_by c.owner_of.new.pass) w o.sees c.in-None-exchange_wait.ensures.told))

pub returns-in-Some-exchange_wait-clause-woken : goal.returns-in-Some-exchange_wait-clause-woken
returns-in-Some-exchange_wait-clause-woken c = let h = c.requires.first.held in
    receiver_missed c.args.hub.now c.exchange_wait.new.pass c.exchange_wait.ensures.own.0 c.args.c c.args.place c.args.waiter
    (seen_by c.args.pass.now) c.requires.low c.requires.first (seen_by c.owner_of.new.pass) c.owner_of.ensures.sees
    c.wait_cell-cell.result _ c.standing_wait.ensures.zero (c.wait_cell-cell.ensures h.who h.wait h.holder)
    c.in-Some-exchange_wait.field-0 c.in-Some-exchange_wait.ensures.told
