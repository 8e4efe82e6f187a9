use Rattle.std.proofs.Common.{◌≡◌, ◌++◌, length}
use Rattle.std.specs.List.{slice_split}
use Rattle.script_grammar.specs.Words.{texts, is_space, words_of}
use Rattle.script_reader.proofs.Cuts.{words_in}
use Rattle.script_reader.proofs.words.fill_words.Given as goal

abbrev pub invariant-loop-piece : goal.invariant-loop-piece
invariant-loop-piece l = texts l.words.items ++ words_in (slice_split is_space l.rest) ≡ words_of l.line

abbrev pub decreases-loop-piece : goal.decreases-loop-piece
decreases-loop-piece l = length l.rest
