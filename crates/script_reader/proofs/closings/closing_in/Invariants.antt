use Rattle.std.proofs.Common.{◌≡◌, ◌+◌, ◌≤◌, length}
use Rattle.script_grammar.specs.Nesting.{closing_from}
use Rattle.script_reader.proofs.closings.closing_in.Given as goal

abbrev pub invariant-loop-rest : goal.invariant-loop-rest
invariant-loop-rest l = record {
  place : l.place + length l.rest ≡ l.first + length l.code;
  depth : l.depth + length l.rest ≤ length l.code;
  same : closing_from l.depth l.place l.rest ≡ closing_from 0 l.first l.code;
}

abbrev pub decreases-loop-rest : goal.decreases-loop-rest
decreases-loop-rest l = length l.rest
