use Rattle.word_bench.proofs.channels.apart.receive_next.Goals as goal

pub await_end-requires-clause-holds : goal.await_end-requires-clause-holds
await_end-requires-clause-holds c = c.in-Waiting.ensures.begins
