use Rattle.cell_words.specs.Answers.{put}
use Rattle.cell_words.proofs.removing.remove_kept.Goals as goal

pub empty-requires-clause-kept : goal.empty-requires-clause-kept
empty-requires-clause-kept c = put c.plain_cell-old.ensures.word c.requires.kept
