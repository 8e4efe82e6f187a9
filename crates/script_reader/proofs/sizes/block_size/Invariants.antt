use Rattle.std.proofs.Common.{◌≡◌, ◌+◌, [], length, get_or}
use Rattle.script_grammar.specs.Tags.{launches_from}
use Rattle.script_reader.proofs.sizes.block_size.Given as goal

abbrev pub invariant-loop-rest : goal.invariant-loop-rest
invariant-loop-rest l =
    l.size + launches_from (λ j. get_or l.sizes j 0) l.nest.items l.rest ≡ 1 + launches_from (λ j. get_or l.sizes j 0) [] l.code

abbrev pub decreases-loop-rest : goal.decreases-loop-rest
decreases-loop-rest l = length l.rest
