use Rattle.std.proofs.Common.{◌≡◌, ◌++◌, map, take, replicate}
use Rattle.channel_model.specs.declared.acts.Kind.TheVariants.{Signal}
use Rattle.script_reader.specs.Scripts.{program_of}
use Rattle.script_grammar.specs.Programs.{shape_of}
use Rattle.engine_base.proofs.sizes.kinds_of.Given as goal

abbrev pub invariant-loop-channel : goal.invariant-loop-channel
invariant-loop-channel l = l.kinds.items ≡ map (λ channel. (channel.kind, channel.places)) (take l.channel-index l.channels)

abbrev pub invariant-loop : goal.invariant-loop
invariant-loop l = l.kinds.items ≡ shape_of (program_of l.script) ++ replicate l.counter (Signal, 1)
