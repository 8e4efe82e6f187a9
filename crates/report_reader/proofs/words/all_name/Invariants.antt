use Rattle.std.proofs.Common.{◌≡◌, length}
use Rattle.report_reader.specs.Words.{is_name_byte}
use Rattle.std.specs.List.{list_all}
use Rattle.report_reader.proofs.words.all_name.Given as goal

abbrev pub invariant-loop-rest : goal.invariant-loop-rest
invariant-loop-rest l = list_all is_name_byte l.rest ≡ list_all is_name_byte l.word

abbrev pub decreases-loop-rest : goal.decreases-loop-rest
decreases-loop-rest l = length l.rest
