use Rattle.std.proofs.Common.{◌≡◌, ◌++◌, map, drop, string_bytes}
use Rattle.script_reader.specs.Programs.{declared_of}
use Rattle.run_report.specs.Elements.{elements_text}
use Rattle.run_report.specs.Known.{element_in}
use Rattle.run_report.proofs.elements.push_elements.Given as goal

abbrev pub invariant-loop-channel : goal.invariant-loop-channel
invariant-loop-channel l = record {
  counted : l.c ≡ l.channel-index;
  written : string_bytes l.out ++ elements_text (element_in l.known) l.c (map declared_of (drop l.channel-index l.channels)) ≡
      string_bytes l.fn.out ++ elements_text (element_in l.known) 0 (map declared_of l.channels);
}
