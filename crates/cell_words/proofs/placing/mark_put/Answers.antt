use Rattle.cell_words.proofs.placing.mark_put.Goals as goal

pub mark-requires-clause-fate : goal.mark-requires-clause-fate
mark-requires-clause-fate c = c.requires.kept c.if-full.false c.in-Put.is
