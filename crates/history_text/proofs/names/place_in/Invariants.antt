use Rattle.std.proofs.Common.{◌≡◌, ◌+◌, length}
use Rattle.report_reader.specs.Words.{texts}
use Rattle.script_grammar.specs.Places.{place_from}
use Rattle.history_text.proofs.names.place_in.Given as goal

abbrev pub invariant-loop-rest : goal.invariant-loop-rest
invariant-loop-rest l = record {
  says : place_from l.number l.word (texts l.rest) ≡ place_from 0 l.word (texts l.names);
  count : l.number + length l.rest ≡ length l.names;
}

abbrev pub decreases-loop-rest : goal.decreases-loop-rest
decreases-loop-rest l = length l.rest
