use Rattle.cell_words.proofs.LooksAtCells.{sees_then}
use Rattle.cell_calls.proofs.ending.find_end.Goals as goal

pub returns-clause-sees : goal.returns-clause-sees
returns-clause-sees c = sees_then _ _ _ c.end_from-from.ensures.sees c.find_end_from.ensures.sees
