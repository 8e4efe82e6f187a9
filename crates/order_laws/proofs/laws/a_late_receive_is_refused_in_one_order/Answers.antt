use Rattle.order_laws.proofs.LateReceives.{late_without_order}
use Rattle.order_laws.proofs.laws.a_late_receive_is_refused_in_one_order.Goals as goal

pub returns : goal.returns
returns c = late_without_order
