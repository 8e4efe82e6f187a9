use Rattle.run_laws.proofs.OneOrder.{along_whole}
use Rattle.run_laws.proofs.laws.coroutines_brought_together_have_one_order.Goals as goal

pub returns : goal.returns
returns c = along_whole
