use Rattle.std.proofs.Common.{length, map}
use Rattle.gathered.specs.Texts.{GoesOn}
use Rattle.report_picture.specs.Elements.{head_nodes, nodes_text}
use Rattle.report_picture.proofs.document.add_heads.Given as goal

abbrev pub invariant-loop-rest : goal.invariant-loop-rest
invariant-loop-rest l = GoesOn l.fn.text l.text (nodes_text (head_nodes (map (λ n. n.items) l.names) l.top l.rest))
    (nodes_text (head_nodes (map (λ n. n.items) l.names) l.top l.columns))

abbrev pub decreases-loop-rest : goal.decreases-loop-rest
decreases-loop-rest l = length l.rest
