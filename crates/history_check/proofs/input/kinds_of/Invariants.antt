use Rattle.std.proofs.Common.{◌≡◌, map, take}
use Rattle.history_check.proofs.input.kinds_of.Given as goal

abbrev pub invariant-loop-channel : goal.invariant-loop-channel
invariant-loop-channel l = l.kinds.items ≡ map (λ channel. (channel.kind, channel.places)) (take l.channel-index l.channels)
