pub mod StaysThen
pub mod ClosesGo
pub mod PollsTold
pub mod ReceiversEnd
