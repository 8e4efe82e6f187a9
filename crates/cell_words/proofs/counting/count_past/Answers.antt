use Rattle.std.proofs.Common.{◌≡◌, ℕ, ◌-◌, ◌≤◌, true, is_some, length, sym, subst, arith}
use Rattle.channel_model.specs.Laws.{NoneBelow}
use Rattle.cell_words.specs.Hubs.{shape_of, seen_by}
use Rattle.cell_words.specs.Seen.{at_channel}
use Rattle.word_rules.specs.Cells.{gather}
use Rattle.cell_words.specs.Answers.{stands}
use Rattle.cell_words.proofs.LooksAtCells.{hub_legal, sees_then, given_seen, below_seen}
use Rattle.cell_words.proofs.CountsOfOffers.{count_up}
use Rattle.cell_words.proofs.WalksCount.{count_before}
use Rattle.cell_words.proofs.WalksToAdmit.{sees_self}
use Rattle.cell_words.proofs.counting.count_past.Goals as goal

pub count_ranges-past-requires-clause-within : goal.count_ranges-past-requires-clause-within
count_ranges-past-requires-clause-within c =
    let h = c.begun_at-begun.ensures.low in (omega (arith, h, c.requires.from), omega (arith, h))

pub count_ranges-past-requires-clause-low : goal.count_ranges-past-requires-clause-low
count_ranges-past-requires-clause-low c = subst (λ (z : ℕ). NoneBelow 0 z (at_channel (seen_by c.args.pass.now).seen c.args.c))
    (sym c.begun_at-begun.ensures.low.0) c.requires.low

pub count_ranges-past-requires-clause-decided : goal.count_ranges-past-requires-clause-decided
count_ranges-past-requires-clause-decided c = c.begun_at-begun.ensures.decided (shape_of c.args.hub.now)
    (seen_by c.args.pass.now).seen c.args.c c.requires.decided

pub stands_at-requires-clause-given : goal.stands_at-requires-clause-given
stands_at-requires-clause-given c =
    let h = c.count_ranges-past.ensures in
    let g = given_seen (shape_of c.args.hub.now) c.args.end c.args.c (seen_by c.args.pass.now) (seen_by c.count_ranges-past.new.pass)
    h.sees (hub_legal c.args.hub.now c.count_ranges-past.new.pass h.own.0) c.requires.given in
    omega (arith, g, c.requires.from)

pub returns-then-past-most-clause-count : goal.returns-then-past-most-clause-count
returns-then-past-most-clause-count c =
    let v = seen_by c.count_ranges-past.new.pass in
    let h = c.count_ranges-past.ensures in
    let k = subst (λ (z : ℕ). length (gather (stands v.seen c.args.c) z) ≤ c.count_ranges-past.result.count)
    (h.whole.1 c.if-past-most.true) h.counted.upper in
    omega (arith, k, c.if-past-most.true)

pub returns-then-stands_at-clause-sees : goal.returns-then-stands_at-clause-sees
returns-then-stands_at-clause-sees c = sees_then (seen_by c.args.pass.now) (seen_by c.count_ranges-past.new.pass)
    (seen_by c.stands_at.new.pass) c.count_ranges-past.ensures.sees c.stands_at.ensures.sees

pub returns-then-stands_at-clause-count : goal.returns-then-stands_at-clause-count
returns-then-stands_at-clause-count c =
    let h = c.count_ranges-past.ensures in
    let v = seen_by c.count_ranges-past.new.pass in
    let st = rw c.if-stands_at.true at c.stands_at.ensures.stands in
    let k = h.counted.lower v (sees_self v) (hub_legal c.args.hub.now c.count_ranges-past.new.pass h.own.0)
    (subst (λ (z : ℕ). is_some (stands v.seen c.args.c z) ≡ true) (sym c.begun_at-begun.ensures.low.0) st) in
    let up = count_up (stands (seen_by c.args.pass.now).seen c.args.c) c.count_ranges-past.result.to
    (c.args.end - c.count_ranges-past.result.to) c.args.end (omega (arith, h.whole)) in
    omega (arith, k, up, c.if-past-most.false)

pub enough_from-requires-clause-given : goal.enough_from-requires-clause-given
enough_from-requires-clause-given c =
    let u = seen_by c.args.pass.now in
    let v = seen_by c.count_ranges-past.new.pass in
    let w = seen_by c.stands_at.new.pass in
    given_seen (shape_of c.args.hub.now) c.args.end c.args.c u w
    (sees_then u v w c.count_ranges-past.ensures.sees c.stands_at.ensures.sees)
    (hub_legal c.args.hub.now c.stands_at.new.pass c.stands_at.ensures.own.0) c.requires.given

pub enough_from-requires-clause-low : goal.enough_from-requires-clause-low
enough_from-requires-clause-low c =
    let u = seen_by c.args.pass.now in
    let v = seen_by c.count_ranges-past.new.pass in
    let w = seen_by c.stands_at.new.pass in
    below_seen (shape_of c.args.hub.now) 0 c.args.low c.args.c u w
    (sees_then u v w c.count_ranges-past.ensures.sees c.stands_at.ensures.sees)
    (hub_legal c.args.hub.now c.stands_at.new.pass c.stands_at.ensures.own.0) c.requires.low

pub returns-clause-sees : goal.returns-clause-sees
returns-clause-sees c =
    let u = seen_by c.args.pass.now in
    let v = seen_by c.count_ranges-past.new.pass in
    let w = seen_by c.stands_at.new.pass in
    sees_then u w (seen_by c.enough_from.new.pass) (sees_then u v w c.count_ranges-past.ensures.sees c.stands_at.ensures.sees)
    c.enough_from.ensures.sees

pub returns-clause-count : goal.returns-clause-count
returns-clause-count c =
    let u = seen_by c.args.pass.now in
    let v = seen_by c.count_ranges-past.new.pass in
    let w = seen_by c.stands_at.new.pass in
    count_before (shape_of c.args.hub.now) c.args.c c.args.end c.args.most u w (seen_by c.enough_from.new.pass)
    (sees_then u v w c.count_ranges-past.ensures.sees c.stands_at.ensures.sees)
    (hub_legal c.args.hub.now c.args.pass.now c.requires.own.0)
    (hub_legal c.args.hub.now c.stands_at.new.pass c.stands_at.ensures.own.0)
    c.requires.given c.enough_from.result c.enough_from.ensures.count
