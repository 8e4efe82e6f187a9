use Rattle.std.proofs.Common.{◌≡◌, length}
use Rattle.script_grammar.specs.Blocks.{is_among}
use Rattle.script_reader.proofs.blocks.is_among.Given as goal

abbrev pub invariant-loop-rest : goal.invariant-loop-rest
invariant-loop-rest l = is_among l.c l.rest ≡ is_among l.c l.channels

abbrev pub decreases-loop-rest : goal.decreases-loop-rest
decreases-loop-rest l = length l.rest
