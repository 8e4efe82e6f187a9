use Rattle.word_bench.proofs.shares.turns.Given as goal

abbrev pub invariant-loop-number : goal.invariant-loop-number
invariant-loop-number g l = g.W.Worker.can_work l.floor l.worker
