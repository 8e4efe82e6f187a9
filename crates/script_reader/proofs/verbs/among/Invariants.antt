use Rattle.std.proofs.Common.{◌≡◌, length}
use Rattle.script_grammar.specs.Verbs.{among}
use Rattle.script_reader.proofs.verbs.among.Given as goal

abbrev pub invariant-loop-rest : goal.invariant-loop-rest
invariant-loop-rest l = among l.word l.rest ≡ among l.word l.verbs

abbrev pub decreases-loop-rest : goal.decreases-loop-rest
decreases-loop-rest l = length l.rest
