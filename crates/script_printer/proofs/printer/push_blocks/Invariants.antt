use Rattle.std.proofs.Common.{◌≡◌, ◌++◌, length, map, true, nat_le}
use Rattle.std.specs.List.{list_all}
use Rattle.script_grammar.specs.Programs.{channel_names, block_names}
use Rattle.script_grammar.specs.Canonical.{deep_blocks}
use Rattle.script_reader.specs.Programs.{declared_of, block_of}
use Rattle.script_printer.specs.Printing.{text_of}
use Rattle.script_printer.proofs.printer.push_blocks.Given as goal

abbrev pub invariant-loop-rest : goal.invariant-loop-rest
invariant-loop-rest l = record {
  short : list_all (λ c. nat_le (length c.code.items) 1048577) l.rest ≡ true;
  same : l.out.items
      ++ text_of (deep_blocks (channel_names (map declared_of l.channels)) (block_names (map block_of l.coroutines)) (map block_of l.rest))
      ≡ l.fn.out.items
      ++ text_of (deep_blocks (channel_names (map declared_of l.channels)) (block_names (map block_of l.coroutines))
      (map block_of l.coroutines));
}

abbrev pub decreases-loop-rest : goal.decreases-loop-rest
decreases-loop-rest l = length l.rest
