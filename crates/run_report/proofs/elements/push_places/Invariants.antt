use Rattle.std.proofs.Common.{◌≡◌, ◌++◌, string_bytes}
use Rattle.std.specs.List.{flat_map, range_with_len}
use Rattle.script_reader.specs.Programs.{declared_of}
use Rattle.run_report.specs.Elements.{element_line}
use Rattle.run_report.specs.Known.{element_in}
use Rattle.run_report.proofs.elements.push_places.Given as goal

abbrev pub invariant-loop-place : goal.invariant-loop-place
invariant-loop-place l = string_bytes l.out ≡ string_bytes l.fn.out
    ++ flat_map (λ p. element_line (declared_of l.channel).name p (element_in l.known l.c p)) (range_with_len 0 l.place)
