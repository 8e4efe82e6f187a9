use Rattle.cell_words.specs.Hubs.{shape_of, seen_by}
use Rattle.cell_words.proofs.OneNumberOneWord.{mark_within}
use Rattle.cell_words.proofs.marks.behind_at.Goals as goal

pub load_word-word-requires-clause-word : goal.load_word-word-requires-clause-word
load_word-word-requires-clause-word c = rw c.mark_word.ensures
    (mark_within (shape_of c.args.hub.now) c.args.c c.args.place c.requires.at.0.0 c.requires.at.0.1)

pub returns-clause-decided : goal.returns-clause-decided
returns-clause-decided c = c.behind_found.ensures.decided (shape_of c.args.hub.now) (seen_by c.load_word-word.new.pass).seen c.args.c
    (c.load_word-word.ensures.found.mark c.args.c c.args.place c.requires.at.0.0 c.requires.at.0.1 c.mark_word.ensures)
