use Rattle.std.proofs.Common.{◌≡◌, ◌++◌, length, option_map}
use Rattle.run_explore.specs.Words.{tags_of}
use Rattle.run_explore.proofs.words.order_of.Given as goal

abbrev pub invariant-tags : goal.invariant-tags
invariant-tags l = option_map (λ tags. l.order.items ++ tags) (tags_of l.rest) ≡ tags_of l.word

abbrev pub decreases-tags : goal.decreases-tags
decreases-tags l = length l.rest
