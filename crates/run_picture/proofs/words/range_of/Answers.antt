use Rattle.std.proofs.Common.{◌∙◌, sym}
use Rattle.run_picture.proofs.Ranges.{of_three}
use Rattle.run_picture.proofs.words.range_of.Goals as goal

pub returns-then-is_some : goal.returns-then-is_some
returns-then-is_some c =
    of_three c.args.word.now c.cut_at.result.0.now c.cut_at-2.result.0.now c.cut_at.result.1 c.cut_at-2.result.1 c.in-Some.rest
    c.cut_at.ensures.cut c.in-Some.is c.cut_at-2.ensures.cut (sym c.is_some.ensures ∙ c.if-is_some.true)
