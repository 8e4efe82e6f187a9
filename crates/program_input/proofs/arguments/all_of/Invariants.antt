use Rattle.std.specs.Prelude.{◌≡◌, ◌++◌}
use Rattle.std.specs.Vec.Iter.{into_iter_items}
use Rattle.program_input.proofs.arguments.all_of.Given as goal

abbrev pub invariant-loop-text : goal.invariant-loop-text
invariant-loop-text l = into_iter_items l.fn.arguments ≡ l.all.items ++ into_iter_items l.text-iterator
