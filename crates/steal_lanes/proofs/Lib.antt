mod LaneMoves
mod OtherLanes
mod LanesBesideOthers
mod TicketsTaken
