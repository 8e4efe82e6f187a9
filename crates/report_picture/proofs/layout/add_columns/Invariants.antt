use Rattle.std.proofs.Common.{◌≡◌, ◌≤◌, ◌++◌, map, length}
use Rattle.report_picture.specs.Pictures.{StandBeside, last_text}
use Rattle.report_picture.proofs.layout.add_columns.Given as goal

abbrev pub invariant-loop-rest : goal.invariant-loop-rest
invariant-loop-rest l = record {
  tags : map (λ c. c.tag) l.columns.items ++ l.rest ≡ l.tags;
  beside : StandBeside 0 l.columns.items;
  edge : last_text 0 l.columns.items ≤ l.edge;
}

abbrev pub decreases-loop-rest : goal.decreases-loop-rest
decreases-loop-rest l = length l.rest
