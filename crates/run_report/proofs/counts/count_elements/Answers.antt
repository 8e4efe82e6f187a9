use Rattle.std.proofs.Common.{◌+◌, ◌∷◌, map, drop, ap, sym, ◌∙◌, arith}
use Rattle.std.proofs.lemmas.List.{drop_more}
use Rattle.script_reader.specs.Programs.{declared_of}
use Rattle.run_report.specs.Known.{element_in}
use Rattle.run_report.specs.Summaries.{no_elements, with_channels}
use Rattle.run_report.proofs.CountedOn.{channels_counted}
use Rattle.run_report.proofs.counts.count_elements.Goals as goal

pub loop-channel-preserved : goal.loop-channel-preserved
loop-channel-preserved c =
    let channels = c.args.channels.now in
    let i = c.loop-channel.channel-index in
    let channel = c.channel-item.result in
    let elements = element_in c.args.known.now in
    record {
      numbered = omega (arith, c.loop-channel.invariant.numbered);
      counted = channels_counted elements c.loop-channel.c c.loop-channel.counts c.with_places-counts.result
          (with_channels elements 0 no_elements (map declared_of channels)) channel (drop i channels) (drop (i + 1) channels)
          (ap (λ x. x ∷ drop (i + 1) channels) c.channel-item.is ∙ sym (drop_more channels i channel (omega arith)))
          c.with_places-counts.ensures.counts
          c.loop-channel.invariant.counted;
      fit = c.with_places-counts.ensures.most;
    }
