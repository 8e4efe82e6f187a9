use Rattle.cell_words.proofs.decided.decided_places.Goals as goal

pub returns-clause-decided : goal.returns-clause-decided
returns-clause-decided c = c.load_word-word.ensures.found.decided c.args.c c.requires.channel c.decided_word.ensures
