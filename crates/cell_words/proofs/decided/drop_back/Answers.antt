use Rattle.std.proofs.Common.{◌≡◌, ℕ, ◌+◌, ◌-◌, sym, subst, arith}
use Rattle.cell_words.specs.Hubs.{shape_of, seen_by}
use Rattle.word_rules.specs.Words.{one_if, WereDecided}
use Rattle.cell_words.proofs.LooksAtCells.{hub_legal, sees_then}
use Rattle.cell_words.proofs.WalksToAdmit.{sees_self}
use Rattle.cell_words.proofs.PlacesDecided.{decided_none}
use Rattle.cell_words.proofs.CountsOfDecided.{decided_seen, decided_before}
use Rattle.cell_words.proofs.decided.drop_back.Goals as goal

pub loop-passed-init : goal.loop-passed-init
loop-passed-init c =
    let all : c.args.known.to ≡ c.args.known.to - 0 = omega arith in
    record {
      own = c.requires.own;
      sees = sees_self (seen_by c.args.pass.now);
      decided = subst (λ (z : ℕ). WereDecided (shape_of c.args.hub.now) (seen_by c.args.pass.now).seen c.args.c c.args.known.from z
          c.args.known.count) all c.requires.decided;
    }

pub loop-passed-preserved : goal.loop-passed-preserved
loop-passed-preserved c =
    let shape = shape_of c.args.hub.now in
    let i = c.loop-passed.invariant in
    let h = c.fate_at-fate.ensures in
    let v = seen_by c.loop-passed.pass in
    let w = seen_by c.fate_at-fate.new.pass in
    let l = hub_legal c.args.hub.now c.fate_at-fate.new.pass h.own.0 in
    let last : (c.args.known.to - 1) - c.loop-passed.passed ≡ c.args.known.to - (c.loop-passed.passed + 1) = omega arith in
    record {
      own = h.own;
      sees = sees_then (seen_by c.args.pass.now) v w i.sees h.sees;
      decided = subst (λ (n : ℕ). WereDecided shape w.seen c.args.c c.args.known.from (c.args.known.to - (c.loop-passed.passed + 1)) n)
          (sym c.less_one-count.ensures)
          (subst (λ (n : ℕ). WereDecided shape w.seen c.args.c c.args.known.from n (c.loop-passed.count - one_if c.in-Some.kept)) last
          (decided_before shape w.seen c.args.c c.args.known.from (c.args.known.to - c.loop-passed.passed)
          ((c.args.known.to - 1) - c.loop-passed.passed) c.loop-passed.count c.in-Some.kept
          (omega (arith, c.loop-passed-test.true, c.requires.within)) (omega (arith, c.loop-passed-test.true, c.requires.within))
          (decided_seen shape c.args.c _ _ _ v w h.sees l i.decided) (h.fate c.in-Some.kept c.in-Some.is)));
    }

pub returns-in-None-clause-sees : goal.returns-in-None-clause-sees
returns-in-None-clause-sees c = sees_then (seen_by c.args.pass.now) (seen_by c.loop-passed.pass) (seen_by c.fate_at-fate.new.pass)
    c.loop-passed.invariant.sees c.fate_at-fate.ensures.sees

pub returns-in-None-clause-decided : goal.returns-in-None-clause-decided
returns-in-None-clause-decided c = decided_none (shape_of c.args.hub.now) _ c.args.c c.args.known.from c.args.known.from 0
    (omega arith) (omega arith)

pub returns-clause-sees : goal.returns-clause-sees
returns-clause-sees c = c.loop-passed.invariant.sees

pub returns-clause-decided : goal.returns-clause-decided
returns-clause-decided c = subst (λ (z : ℕ). WereDecided (shape_of c.args.hub.now) (seen_by c.loop-passed.pass).seen c.args.c
    c.args.known.from z c.loop-passed.count)
    (omega (arith, c.loop-passed-test.false, c.requires.within)) c.loop-passed.invariant.decided
