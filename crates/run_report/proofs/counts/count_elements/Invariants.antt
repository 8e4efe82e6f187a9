use Rattle.std.proofs.Common.{◌≡◌, ◌*◌, map, drop}
use Rattle.script_reader.specs.Programs.{declared_of}
use Rattle.run_report.specs.Known.{element_in}
use Rattle.run_report.specs.Summaries.{HasElementsUpTo, no_elements, with_channels}
use Rattle.run_report.proofs.counts.count_elements.Given as goal

abbrev pub invariant-loop-channel : goal.invariant-loop-channel
invariant-loop-channel l = record {
  numbered : l.c ≡ l.channel-index;
  counted : with_channels (element_in l.known) l.c l.counts (map declared_of (drop l.channel-index l.channels)) ≡
      with_channels (element_in l.known) 0 no_elements (map declared_of l.channels);
  fit : HasElementsUpTo (l.c * 4294967296) l.counts;
}
