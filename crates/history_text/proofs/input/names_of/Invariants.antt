use Rattle.std.proofs.Common.{◌≡◌, map, take, string_bytes}
use Rattle.report_reader.specs.Words.{texts}
use Rattle.history_text.proofs.input.names_of.Given as goal

abbrev pub invariant-loop-channel : goal.invariant-loop-channel
invariant-loop-channel l = texts l.names.items ≡ map (λ channel. string_bytes channel.name) (take l.channel-index l.channels)
