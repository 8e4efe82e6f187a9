pub mod TasksAtHand
