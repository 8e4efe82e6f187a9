use Rattle.std.proofs.Common.{◌≡◌, ◌++◌, take, drop}
use Rattle.script_grammar.specs.Tags.{times_over}
use Rattle.script_reader.proofs.launches.repeat_from.Given as goal

abbrev pub invariant-loop-turn : goal.invariant-loop-turn
invariant-loop-turn l = record {
  part : l.part.items ≡ drop l.from l.fn.blocks.items;
  copies : l.blocks.items ≡ take l.from l.fn.blocks.items ++ times_over l._turn (drop l.from l.fn.blocks.items);
}
