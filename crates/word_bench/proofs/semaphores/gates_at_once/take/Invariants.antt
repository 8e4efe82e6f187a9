use Rattle.gates.specs.Passes.{IsOf}
use Rattle.word_bench.proofs.semaphores.gates_at_once.take.Given as goal

abbrev pub invariant-loop : goal.invariant-loop
invariant-loop l = IsOf l.gate l.pass
