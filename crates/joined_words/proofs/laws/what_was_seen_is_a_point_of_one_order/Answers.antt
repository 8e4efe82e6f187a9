use Rattle.joined_words.proofs.PointsOfAnOrder.{has_order, is_point}
use Rattle.joined_words.proofs.laws.what_was_seen_is_a_point_of_one_order.Goals as goal

pub returns-clause-order : goal.returns-clause-order
returns-clause-order g c log = has_order log

pub returns-clause-point : goal.returns-clause-point
returns-clause-point g c seen log p = is_point seen log p
