mod LineLoops
pub mod Parts
mod Placed
pub mod Places
mod Waits
mod WordCounts
