use Rattle.std.proofs.Common.{length, map}
use Rattle.gathered.specs.Texts.{GoesOn}
use Rattle.report_picture.specs.Elements.{mark_node, nodes_text}
use Rattle.report_picture.proofs.document.add_marks.Given as goal

abbrev pub invariant-loop-rest : goal.invariant-loop-rest
invariant-loop-rest l = GoesOn l.fn.text l.text (nodes_text (map mark_node l.rest))
    (nodes_text (map mark_node l.marks))

abbrev pub decreases-loop-rest : goal.decreases-loop-rest
decreases-loop-rest l = length l.rest
