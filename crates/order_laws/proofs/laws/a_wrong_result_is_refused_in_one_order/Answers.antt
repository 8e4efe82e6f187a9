use Rattle.order_laws.proofs.WrongResults.{wrong_without_order}
use Rattle.order_laws.proofs.laws.a_wrong_result_is_refused_in_one_order.Goals as goal

pub returns : goal.returns
returns c = wrong_without_order
