use Rattle.cell_words.proofs.counters.kept_run.Goals as goal

pub returns-clause-kept : goal.returns-clause-kept
returns-clause-kept c = c.load_word-word.ensures.found.run c.args.c c.requires.channel c.run_word.ensures
