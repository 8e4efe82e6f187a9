use Rattle.order_laws.proofs.PairsAccept.{rests_in_pairs}
use Rattle.order_laws.proofs.laws.two_histories_accept_a_stale_answer.Goals as goal

pub returns : goal.returns
returns c = rests_in_pairs
