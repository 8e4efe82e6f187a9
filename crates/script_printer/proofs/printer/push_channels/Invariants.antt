use Rattle.std.proofs.Common.{◌≡◌, ◌++◌, length, map, true}
use Rattle.script_grammar.specs.Lines.{channel_words}
use Rattle.script_grammar.specs.Canonical.{flat}
use Rattle.script_reader.specs.Programs.{declared_of}
use Rattle.script_printer.specs.Printing.{text_of}
use Rattle.script_printer.proofs.printer.push_channels.Given as goal

abbrev pub invariant-loop-rest : goal.invariant-loop-rest
invariant-loop-rest l =
    l.out.items ++ text_of (flat (map (λ c. channel_words c true true) (map declared_of l.rest)))
    ≡ l.fn.out.items ++ text_of (flat (map (λ c. channel_words c true true) (map declared_of l.channels)))

abbrev pub decreases-loop-rest : goal.decreases-loop-rest
decreases-loop-rest l = length l.rest
