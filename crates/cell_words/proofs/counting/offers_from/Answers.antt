use Rattle.cell_words.proofs.WalksCount.{fewer_below}
use Rattle.cell_words.proofs.counting.offers_from.Goals as goal

pub returns-else-from-end-clause-low : goal.returns-else-from-end-clause-low
returns-else-from-end-clause-low c = fewer_below c.args.end c.receives_from-from.result _ c.if-from-end.false
    c.receives_from-from.ensures.low
