use Rattle.std.proofs.Common.{◌≡◌, ℕ, ◌+◌, sym, ◌∙◌, subst, arith}
use Rattle.cell_words.specs.Hubs.{shape_of, seen_by}
use Rattle.cell_words.specs.Seen.{Seen, Sees}
use Rattle.cell_words.specs.Answers.{CountedPast}
use Rattle.word_rules.specs.Words.{one_if, WereDecided}
use Rattle.cell_words.proofs.LooksAtCells.{hub_legal, sees_then}
use Rattle.cell_words.proofs.CountsOfDecided.{decided_most, one_most}
use Rattle.cell_words.proofs.CountsBehind.{past_one, past_range}
use Rattle.cell_words.proofs.counting.count_one.Goals as goal

pub returns-clause-counted : goal.returns-clause-counted
returns-clause-counted c low first le s lf given h =
    let shape = shape_of c.args.hub.now in
    let u = seen_by c.args.pass.now in
    let v = seen_by c.stands_at-stood.new.pass in
    let w = seen_by c.behind_at-behind.new.pass in
    let x = seen_by c.up_to-more.new.pass in
    let lu = hub_legal c.args.hub.now c.args.pass.now c.requires.own.0 in
    let lv = hub_legal c.args.hub.now c.stands_at-stood.new.pass c.stands_at-stood.ensures.own.0 in
    let lx = hub_legal c.args.hub.now c.up_to-more.new.pass c.up_to-more.ensures.own.0 in
    let one = past_one shape c.args.c low c.args.past.to c.args.past.count first u v s c.stands_at-stood.ensures.sees lf lu lv h
    (omega (arith, given, c.requires.before)) c.stands_at-stood.result c.stands_at-stood.ensures.stands in
    let from : c.up_to-more.result.from ≡ c.args.past.to + 1 = c.up_to-more.ensures.within.0 ∙ c.behind_at-behind.ensures.low.0 in
    let range = past_range shape c.args.c low (c.args.past.to + 1) (c.args.past.count + one_if c.stands_at-stood.result) first v x
    (sees_then first u v s c.stands_at-stood.ensures.sees)
    (sees_then v w x c.behind_at-behind.ensures.sees c.up_to-more.ensures.sees) lf lv lx one
    (omega (arith, le)) c.up_to-more.result.to c.up_to-more.result.count
    (omega (arith, from, c.up_to-more.ensures.within)) (omega (arith, given, c.up_to-more.ensures.within))
    (subst (λ (z : ℕ). WereDecided shape x.seen c.args.c z c.up_to-more.result.to c.up_to-more.result.count) from
    c.up_to-more.ensures.decided) in
    subst (λ (z : Seen). CountedPast shape c.args.c low c.up_to-more.result.to (c.with_one.result + c.up_to-more.result.count) first z)
    (sym c.say_behind.ensures.same)
    (subst (λ (z : ℕ). CountedPast shape c.args.c low c.up_to-more.result.to (z + c.up_to-more.result.count) first x)
    (sym c.with_one.ensures) range)

pub returns-clause-sees : goal.returns-clause-sees
returns-clause-sees c =
    let u = seen_by c.args.pass.now in
    let v = seen_by c.stands_at-stood.new.pass in
    let w = seen_by c.behind_at-behind.new.pass in
    let x = seen_by c.up_to-more.new.pass in
    subst (λ (z : Seen). Sees u z) (sym c.say_behind.ensures.same)
    (sees_then u w x (sees_then u v w c.stands_at-stood.ensures.sees c.behind_at-behind.ensures.sees) c.up_to-more.ensures.sees)

pub overflow_add-result : goal.overflow_add-result
overflow_add-result c =
    let from = c.behind_at-behind.ensures.low in
    let h = c.up_to-more.ensures in
    let m = decided_most (shape_of c.args.hub.now) (seen_by c.up_to-more.new.pass).seen c.args.c c.up_to-more.result.from
    c.up_to-more.result.to c.up_to-more.result.count (omega (arith, h.within)) h.decided in
    let one = one_most c.stands_at-stood.result in
    let n = c.with_one.ensures in
    let top = c.ranges.end.fits in
    record { fits = omega (arith, from, h.within, m, one, n, top, c.requires.before) }

pub returns-clause-past : goal.returns-clause-past
returns-clause-past c =
    let from = c.behind_at-behind.ensures.low in
    let h = c.up_to-more.ensures in
    let m = decided_most (shape_of c.args.hub.now) (seen_by c.up_to-more.new.pass).seen c.args.c c.up_to-more.result.from
    c.up_to-more.result.to c.up_to-more.result.count (omega (arith, h.within)) h.decided in
    let one = one_most c.stands_at-stood.result in
    let n = c.with_one.ensures in (
      omega (arith, from, h.within, m, one, n, c.requires.before),
      omega (arith, from, h.within),
      h.within.2,
    )
