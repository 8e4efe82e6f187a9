pub mod PairsAccept
pub mod PointsNoted
pub mod LaunchedBehind
pub mod StaleAnswers
pub mod WrongResults
pub mod ScopesEndFirst
pub mod ReceiverMoves
pub mod LateReceives
