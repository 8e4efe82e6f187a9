use Rattle.std.proofs.Common.{length, map}
use Rattle.gathered.specs.Texts.{GoesOn}
use Rattle.report_picture.specs.Diagrams.{lines_text}
use Rattle.report_picture.proofs.diagram.add_lines.Given as goal

abbrev pub invariant-loop-rest : goal.invariant-loop-rest
invariant-loop-rest l = GoesOn l.fn.text l.text (lines_text l.columns l.rest)
    (lines_text l.columns l.lines)

abbrev pub decreases-loop-rest : goal.decreases-loop-rest
decreases-loop-rest l = length l.rest
