use Rattle.std.proofs.Common.{◌≡◌, length}
use Rattle.report_reader.specs.Words.{words_of}
use Rattle.run_explanation.specs.Waiting.{word_at}
use Rattle.run_explanation.proofs.marks.word_in.Given as goal

abbrev pub invariant-words : goal.invariant-words
invariant-words l = word_at (words_of l.rest) l.left ≡ word_at (words_of l.line) l.i

abbrev pub decreases-words : goal.decreases-words
decreases-words l = length l.rest
