use Rattle.word_bench.proofs.channels.apart.send.Goals as goal

pub admit_first-requires-clause-plain : goal.admit_first-requires-clause-plain
admit_first-requires-clause-plain c = c.in-Held.ensures.begins
