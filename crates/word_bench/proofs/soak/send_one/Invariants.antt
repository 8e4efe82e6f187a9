use Rattle.ring_channel.specs.Passes.{IsOf}
use Rattle.word_bench.proofs.soak.send_one.Given as goal

abbrev pub invariant-loop-tries : goal.invariant-loop-tries
invariant-loop-tries l = IsOf l.ring l.pass
