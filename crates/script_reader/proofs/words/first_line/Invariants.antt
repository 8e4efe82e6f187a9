use Rattle.std.proofs.Common.{◌≡◌, ◌<◌, ℕ, false, get_or}
use Rattle.script_grammar.specs.Words.{is_line_feed}
use Rattle.script_reader.proofs.words.first_line.Given as goal

abbrev pub invariant-loop-i : goal.invariant-loop-i
invariant-loop-i l = (k : ℕ) → k < l.i → is_line_feed (get_or l.text k 0) ≡ false
