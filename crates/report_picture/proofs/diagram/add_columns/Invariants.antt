use Rattle.std.proofs.Common.{length, map}
use Rattle.gathered.specs.Texts.{GoesOn}
use Rattle.report_picture.specs.Diagrams.{columns_text}
use Rattle.report_picture.proofs.diagram.add_columns.Given as goal

abbrev pub invariant-loop-rest : goal.invariant-loop-rest
invariant-loop-rest l = GoesOn l.fn.text l.text (columns_text (map (λ n. n.items) l.names) l.rest)
    (columns_text (map (λ n. n.items) l.names) l.columns)

abbrev pub decreases-loop-rest : goal.decreases-loop-rest
decreases-loop-rest l = length l.rest
