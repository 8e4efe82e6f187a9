use Rattle.cell_words.proofs.ActsThatRemove.{removing_removes, removes_only}
use Rattle.cell_words.proofs.laws.removals_are_the_acts_that_remove.Goals as goal

pub returns-clause-each : goal.returns-clause-each
returns-clause-each c = removing_removes

pub returns-clause-only : goal.returns-clause-only
returns-clause-only c = removes_only
