use Rattle.std.proofs.Common.{sym, ◌∙◌}
use Rattle.cell_words.specs.Hubs.{shape_of}
use Rattle.cell_words.proofs.OneNumberOneWord.{mark_within}
use Rattle.cell_words.proofs.marks.mark_at.Goals as goal

pub load_word-word-requires-clause-word : goal.load_word-word-requires-clause-word
load_word-word-requires-clause-word c = rw c.mark_word.ensures
    (mark_within (shape_of c.args.hub.now) c.args.c c.args.place c.requires.at.0 c.requires.at.1)

pub returns-clause-fate : goal.returns-clause-fate
returns-clause-fate c b e =
    (c.load_word-word.ensures.found.mark c.args.c c.args.place c.requires.at.0 c.requires.at.1 c.mark_word.ensures).told b
    (sym c.mark_found.ensures ∙ e)
