pub mod Answers
pub mod Homes
pub mod LastMoves
pub mod Seats
pub mod Steps
pub mod Tables
pub mod Views
pub mod Words
