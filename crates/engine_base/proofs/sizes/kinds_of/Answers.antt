use Rattle.std.proofs.Common.{ap, ◌∙◌, map, sym}
use Rattle.std.proofs.lemmas.List.{take_all, append-nil}
use Rattle.script_reader.specs.Scripts.{program_of}
use Rattle.script_grammar.specs.Programs.{shape_of}
use Rattle.engine_base.proofs.ChannelKinds.{declared_kinds}
use Rattle.engine_base.proofs.sizes.kinds_of.Goals as goal

pub loop-init : goal.loop-init
loop-init c =
    c.loop-channel.invariant
    ∙ ap (map (λ channel. (channel.kind, channel.places)))
    (take_all c.loop-channel.channel-index c.channels-channels.result.now c.loop-channel-test.false)
    ∙ declared_kinds (program_of c.args.script.now) c.channels-channels.result.now c.channels-channels.ensures
    ∙ sym (append-nil (shape_of (program_of c.args.script.now)))
