use Rattle.std.proofs.Common.{◌≡◌, ◌++◌, length}
use Rattle.report_reader.specs.Words.{texts, words_of}
use Rattle.report_reader.proofs.words.words_of.Given as goal

abbrev pub invariant-loop-next : goal.invariant-loop-next
invariant-loop-next l = texts l.words.items ++ words_of l.rest ≡ words_of l.line

abbrev pub decreases-loop-next : goal.decreases-loop-next
decreases-loop-next l = length l.rest
