use Rattle.std.proofs.Common.{◌≡◌, length}
use Rattle.picture_parts.specs.LineWords.{word}
use Rattle.picture_parts.proofs.line_words.word.Given as goal

abbrev pub invariant-loop-left : goal.invariant-loop-left
invariant-loop-left l = word l.left l.rest ≡ word l.number l.line

abbrev pub decreases-loop-left : goal.decreases-loop-left
decreases-loop-left l = length l.rest
