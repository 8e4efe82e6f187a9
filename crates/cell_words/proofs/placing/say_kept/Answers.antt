use Rattle.cell_words.proofs.placing.say_kept.Goals as goal

pub raise_run-requires-clause-run : goal.raise_run-requires-clause-run
raise_run-requires-clause-run c = c.requires.run c.in-Put.is

pub raise_run-requires-clause-kept : goal.raise_run-requires-clause-kept
raise_run-requires-clause-kept c = c.requires.kept c.in-Put.is
