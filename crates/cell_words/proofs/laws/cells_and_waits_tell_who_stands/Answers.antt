use Rattle.cell_words.proofs.CellsTellFacts.{tied_now}
use Rattle.cell_words.proofs.laws.cells_and_waits_tell_who_stands.Goals as goal

pub returns-clause-offers : goal.returns-clause-offers
returns-clause-offers g shape log c l = (tied_now shape log l).queues c

pub returns-clause-receivers : goal.returns-clause-receivers
returns-clause-receivers g shape log c l = (tied_now shape log l).lines c
