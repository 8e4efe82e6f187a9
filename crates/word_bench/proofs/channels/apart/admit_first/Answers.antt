use Rattle.word_bench.proofs.WaitsBegun.{plain_holds}
use Rattle.word_bench.proofs.channels.apart.admit_first.Goals as goal

pub returns-clause-holds : goal.returns-clause-holds
returns-clause-holds c = plain_holds c.args.who 0 _ _ (c.admit.ensures.keeps c.args.place
    (c.mark-end.ensures.keeps c.args.place c.requires.plain)).wait
