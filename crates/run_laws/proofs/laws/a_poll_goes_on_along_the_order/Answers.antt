use Rattle.run_laws.proofs.PointsGoOn.{polled_stands_along}
use Rattle.run_laws.proofs.laws.a_poll_goes_on_along_the_order.Goals as goal

pub returns : goal.returns
returns c = polled_stands_along
