use Rattle.std.proofs.Common.{ap, ◌∙◌, map}
use Rattle.std.proofs.lemmas.List.{take_all}
use Rattle.history_check.proofs.input.kinds_of.Goals as goal

pub returns : goal.returns
returns c =
    c.loop-channel.invariant
    ∙ ap (map (λ channel. (channel.kind, channel.places)))
    (take_all c.loop-channel.channel-index c.args.channels.now c.loop-channel-test.false)
