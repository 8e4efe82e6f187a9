use Rattle.order_laws.proofs.ScopesEndFirst.{scope_without_order}
use Rattle.order_laws.proofs.laws.a_broken_scope_is_refused_in_one_order.Goals as goal

pub returns : goal.returns
returns c = scope_without_order
