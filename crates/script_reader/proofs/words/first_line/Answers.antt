use Rattle.std.proofs.Common.{eq-eqb, arith}
use Rattle.script_grammar.specs.Words.{is_line_feed}
use Rattle.script_reader.proofs.Cuts.{cut_here, cut_nowhere}
use Rattle.script_reader.proofs.words.first_line.Goals as goal

pub returns-then-byte-eq10-clause-cut : goal.returns-then-byte-eq10-clause-cut
returns-then-byte-eq10-clause-cut c = cut_here is_line_feed c.args.text.now c.loop-i.i c.loop-i-test.true c.loop-i.invariant
    (eq-eqb _ 10 c.if-byte-eq10.true)

pub returns-clause-cut : goal.returns-clause-cut
returns-clause-cut c = cut_nowhere is_line_feed c.args.text.now (λ k h. c.loop-i.invariant k (omega (arith, h, c.loop-i-test.false)))
