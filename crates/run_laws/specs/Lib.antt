pub mod Parts
pub mod Refusals
pub mod Orders
pub mod Sights
pub mod Starts
pub mod Looks
pub mod LastRounds
pub mod Ends
