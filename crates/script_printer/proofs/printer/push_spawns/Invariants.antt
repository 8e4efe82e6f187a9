use Rattle.std.proofs.Common.{◌≡◌, ◌++◌, length, map, true}
use Rattle.script_grammar.specs.Programs.{block_names, name_of}
use Rattle.script_grammar.specs.Lines.{spawn_words}
use Rattle.script_grammar.specs.Canonical.{flat}
use Rattle.script_reader.specs.Programs.{block_of, spawn_of}
use Rattle.script_printer.specs.Printing.{text_of}
use Rattle.script_printer.proofs.printer.push_spawns.Given as goal

abbrev pub invariant-loop-rest : goal.invariant-loop-rest
invariant-loop-rest l =
    l.out.items
    ++ text_of (flat (map (λ s. spawn_words (name_of (block_names (map block_of l.coroutines)) s.0) s.1 true) (map spawn_of l.rest)))
    ≡ l.fn.out.items
    ++ text_of (flat (map (λ s. spawn_words (name_of (block_names (map block_of l.coroutines)) s.0) s.1 true) (map spawn_of l.spawns)))

abbrev pub decreases-loop-rest : goal.decreases-loop-rest
decreases-loop-rest l = length l.rest
