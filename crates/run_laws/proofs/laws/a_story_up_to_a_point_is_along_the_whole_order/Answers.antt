use Rattle.run_laws.proofs.PointsGoOn.{stands_in_order}
use Rattle.run_laws.proofs.laws.a_story_up_to_a_point_is_along_the_whole_order.Goals as goal

pub returns : goal.returns
returns c = stands_in_order
