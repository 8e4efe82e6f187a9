use Rattle.std.proofs.Common.{ℕ, ◌≤◌, subst, arith}
use Rattle.cell_words.specs.Hubs.{shape_of, seen_by}
use Rattle.word_rules.specs.Words.{WereDecided}
use Rattle.cell_words.proofs.LooksAtCells.{hub_legal, sees_then, given_seen}
use Rattle.cell_words.proofs.CountsOfDecided.{decided_most}
use Rattle.cell_words.proofs.CountsBehind.{past_known}
use Rattle.cell_words.proofs.counting.count_ranges.Goals as goal

pub loop-past-init : goal.loop-past-init
loop-past-init c =
    let shape = shape_of c.args.hub.now in
    let u = seen_by c.args.pass.now in
    let v = seen_by c.up_to-begun.new.pass in
    let h = c.up_to-begun.ensures in
    let b = c.up_to-begun.result in
    let lu = hub_legal c.args.hub.now c.args.pass.now c.requires.own.0 in
    let lv = hub_legal c.args.hub.now c.up_to-begun.new.pass h.own.0 in
    let d = subst (λ (z : ℕ). WereDecided shape v.seen c.args.c z b.to b.count) h.within.0 h.decided in
    let up : c.args.known.from ≤ b.to = omega (arith, h.within) in
    let most = decided_most shape v.seen c.args.c c.args.known.from b.to b.count up d in
    record {
      own = h.own;
      given = given_seen shape c.args.end c.args.c u v h.sees lv c.requires.given;
      few = omega (arith, most);
      least = up;
      within = h.within.2;
      sees = h.sees;
      counted = past_known shape c.args.c c.args.known.from b.to b.count u v h.sees lu lv c.requires.low up
          (omega (arith, h.within, c.requires.given)) d;
    }

pub loop-past-preserved : goal.loop-past-preserved
loop-past-preserved c =
    let shape = shape_of c.args.hub.now in
    let i = c.loop-past.invariant in
    let u = seen_by c.args.pass.now in
    let v = seen_by c.loop-past.pass in
    let w = seen_by c.count_one-past.new.pass in
    let h = c.count_one-past.ensures in
    record {
      own = h.own;
      given = given_seen shape c.args.end c.args.c v w h.sees
          (hub_legal c.args.hub.now c.count_one-past.new.pass h.own.0) i.given;
      few = h.past.0;
      least = omega (arith, h.past, i.least);
      within = h.past.2;
      sees = sees_then u v w i.sees h.sees;
      counted = h.counted c.args.known.from u i.least i.sees (hub_legal c.args.hub.now c.args.pass.now c.requires.own.0)
          c.requires.given i.counted;
    }

pub returns-clause-sees : goal.returns-clause-sees
returns-clause-sees c = c.loop-past.invariant.sees

pub returns-clause-whole : goal.returns-clause-whole
returns-clause-whole c =
    let i = c.loop-past.invariant in (i.within, λ few. omega (arith, i.within, c.loop-past-test.false))

pub returns-clause-counted : goal.returns-clause-counted
returns-clause-counted c = c.loop-past.invariant.counted

pub returns-then-past-most-clause-sees : goal.returns-then-past-most-clause-sees
returns-then-past-most-clause-sees c = c.loop-past.invariant.sees

pub returns-then-past-most-clause-whole : goal.returns-then-past-most-clause-whole
returns-then-past-most-clause-whole c =
    let i = c.loop-past.invariant in (i.within, λ few. absurd (omega (arith, few, c.if-past-most.true)))

pub returns-then-past-most-clause-counted : goal.returns-then-past-most-clause-counted
returns-then-past-most-clause-counted c = c.loop-past.invariant.counted
