use Rattle.std.proofs.Common.{ap, ◌∙◌, map, string_bytes}
use Rattle.std.proofs.lemmas.List.{take_all}
use Rattle.history_text.proofs.input.names_of.Goals as goal

pub returns : goal.returns
returns c =
    c.loop-channel.invariant
    ∙ ap (map (λ channel. string_bytes channel.name))
    (take_all c.loop-channel.channel-index c.args.channels.now c.loop-channel-test.false)
