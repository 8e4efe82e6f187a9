use Rattle.steal_lanes.proofs.TicketsTaken.{once_in_order, owner_knows}
use Rattle.steal_lanes.proofs.laws.each_ticket_is_taken_once_in_the_order_of_puts.Goals as goal

pub returns : goal.returns
returns c = record { replays = λ items views lane. lane.replays; tickets = once_in_order; owner = owner_knows }
