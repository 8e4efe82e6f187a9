use Rattle.std.proofs.Common.{◌≡◌, length}
use Rattle.script_grammar.specs.Grammar.{is_name_byte}
use Rattle.std.specs.List.{list_all}
use Rattle.script_reader.proofs.place.all_name.Given as goal

abbrev pub invariant-loop-rest : goal.invariant-loop-rest
invariant-loop-rest l = list_all is_name_byte l.rest ≡ list_all is_name_byte l.word

abbrev pub decreases-loop-rest : goal.decreases-loop-rest
decreases-loop-rest l = length l.rest
