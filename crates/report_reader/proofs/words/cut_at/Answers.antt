use Rattle.std.proofs.Common.{eq-eqb, arith, ◌==◌}
use Rattle.report_reader.proofs.Cuts.{cut_here, cut_nowhere}
use Rattle.report_reader.proofs.words.cut_at.Goals as goal

pub returns-then-byte-cut-clause-cut : goal.returns-then-byte-cut-clause-cut
returns-then-byte-cut-clause-cut c = cut_here (λ b. b == c.args.cut) c.args.text.now c.loop-i.i c.loop-i-test.true c.loop-i.invariant
    (eq-eqb _ c.args.cut c.if-byte-cut.true)

pub returns-clause-cut : goal.returns-clause-cut
returns-clause-cut c = cut_nowhere (λ b. b == c.args.cut) c.args.text.now
    (λ k h. c.loop-i.invariant k (omega (arith, h, c.loop-i-test.false)))
