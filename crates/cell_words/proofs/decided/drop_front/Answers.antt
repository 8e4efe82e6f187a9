use Rattle.std.proofs.Common.{ℕ, ◌+◌, sym, subst, arith}
use Rattle.cell_words.specs.Hubs.{shape_of, seen_by}
use Rattle.word_rules.specs.Words.{WereDecided}
use Rattle.cell_words.proofs.LooksAtCells.{hub_legal, sees_then}
use Rattle.cell_words.proofs.WalksToAdmit.{sees_self}
use Rattle.cell_words.proofs.CountsOfDecided.{decided_seen, decided_shorter}
use Rattle.cell_words.proofs.decided.drop_front.Goals as goal

pub loop-place-init : goal.loop-place-init
loop-place-init c = record { own = c.requires.own; sees = sees_self (seen_by c.args.pass.now); decided = c.requires.decided }

pub loop-place-preserved : goal.loop-place-preserved
loop-place-preserved c =
    let shape = shape_of c.args.hub.now in
    let i = c.loop-place.invariant in
    let h = c.fate_at-fate.ensures in
    let v = seen_by c.loop-place.pass in
    let w = seen_by c.fate_at-fate.new.pass in
    let l = hub_legal c.args.hub.now c.fate_at-fate.new.pass h.own.0 in
    record {
      own = h.own;
      sees = sees_then (seen_by c.args.pass.now) v w i.sees h.sees;
      decided = subst (λ (n : ℕ). WereDecided shape w.seen c.args.c (c.loop-place.place + 1) c.args.known.to n)
          (sym c.less_one-count.ensures)
          (decided_shorter shape w.seen c.args.c c.loop-place.place c.args.known.to c.loop-place.count c.in-Some.kept
          (omega (arith, c.loop-place-test.true, c.requires.within)) (decided_seen shape c.args.c _ _ _ v w h.sees l i.decided)
          (h.fate c.in-Some.kept c.in-Some.is));
    }

pub returns-in-None-clause-sees : goal.returns-in-None-clause-sees
returns-in-None-clause-sees c = sees_then (seen_by c.args.pass.now) (seen_by c.loop-place.pass) (seen_by c.fate_at-fate.new.pass)
    c.loop-place.invariant.sees c.fate_at-fate.ensures.sees

pub returns-in-None-clause-decided : goal.returns-in-None-clause-decided
returns-in-None-clause-decided c = decided_seen (shape_of c.args.hub.now) c.args.c _ _ _ (seen_by c.loop-place.pass)
    (seen_by c.fate_at-fate.new.pass) c.fate_at-fate.ensures.sees
    (hub_legal c.args.hub.now c.fate_at-fate.new.pass c.fate_at-fate.ensures.own.0) c.loop-place.invariant.decided

pub returns-clause-sees : goal.returns-clause-sees
returns-clause-sees c = c.loop-place.invariant.sees

pub returns-clause-decided : goal.returns-clause-decided
returns-clause-decided c = subst (λ (z : ℕ). WereDecided (shape_of c.args.hub.now) (seen_by c.loop-place.pass).seen c.args.c z
    c.args.known.to c.loop-place.count)
    (omega (arith, c.loop-place-test.false, c.loop-place.auto.place-end c.requires.within.0)) c.loop-place.invariant.decided
