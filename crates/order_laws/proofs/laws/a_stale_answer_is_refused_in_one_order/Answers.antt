use Rattle.order_laws.proofs.StaleAnswers.{stale_without_order}
use Rattle.order_laws.proofs.laws.a_stale_answer_is_refused_in_one_order.Goals as goal

pub returns : goal.returns
returns c = stale_without_order
