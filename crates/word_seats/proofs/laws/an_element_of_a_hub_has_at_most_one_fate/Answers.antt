use Rattle.word_seats.proofs.OneFate.{holds_once}
use Rattle.word_seats.proofs.laws.an_element_of_a_hub_has_at_most_one_fate.Goals as goal

pub returns : goal.returns
returns c = holds_once
