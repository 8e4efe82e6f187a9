use Rattle.std.proofs.Common.{◌+◌, ◌∷◌, ◌++◌, map, drop, string_bytes, ap, sym, ◌∙◌, arith}
use Rattle.std.proofs.lemmas.List.{drop_more}
use Rattle.script_reader.specs.Programs.{declared_of}
use Rattle.run_report.specs.Elements.{elements_text}
use Rattle.run_report.specs.Known.{element_in}
use Rattle.run_report.proofs.Lines.{channels_more}
use Rattle.run_report.proofs.elements.push_elements.Goals as goal

pub loop-channel-preserved : goal.loop-channel-preserved
loop-channel-preserved c =
    let channels = c.args.channels.now in
    let i = c.loop-channel.channel-index in
    let channel = c.channel-item.result in
    let elements = element_in c.args.known.now in
    record {
      counted = omega (arith, c.loop-channel.invariant.counted);
      written = channels_more elements c.loop-channel.c (string_bytes c.loop-channel.out) (string_bytes c.push_places.new.out)
          (string_bytes c.args.out.now ++ elements_text elements 0 (map declared_of channels)) channel (drop i channels)
          (drop (i + 1) channels)
          (ap (λ x. x ∷ drop (i + 1) channels) c.channel-item.is ∙ sym (drop_more channels i channel (omega arith)))
          c.in_ok-push_places.ensures
          c.loop-channel.invariant.written;
    }
