use Rattle.std.proofs.Common.{sym, arith}
use Rattle.script_grammar.specs.Words.{is_space}
use Rattle.script_reader.proofs.Cuts.{cut_here, cut_nowhere}
use Rattle.script_reader.proofs.words.first_piece.Goals as goal

pub returns-then-space-clause-cut : goal.returns-then-space-clause-cut
returns-then-space-clause-cut c = cut_here is_space c.args.line.now c.loop-i.i c.loop-i-test.true c.loop-i.invariant
    (sym c.if-space.ensures)

pub returns-clause-cut : goal.returns-clause-cut
returns-clause-cut c = cut_nowhere is_space c.args.line.now (λ k h. c.loop-i.invariant k (omega (arith, h, c.loop-i-test.false)))
