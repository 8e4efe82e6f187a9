use Rattle.std.proofs.Common.{◌≡◌, ◌++◌, map, take, string_bytes}
use Rattle.report_reader.specs.Words.{texts}
use Rattle.log_check.proofs.names.all_names.Given as goal

abbrev pub invariant-loop-channel : goal.invariant-loop-channel
invariant-loop-channel l = texts l.names.items ≡ map (λ channel. string_bytes channel.name) (take l.channel-index l.channels)

abbrev pub invariant-loop-row : goal.invariant-loop-row
invariant-loop-row l = texts l.names.items
    ≡ map (λ channel. string_bytes channel.name) l.channels ++ map string_bytes (take l.row-index l.rows)
