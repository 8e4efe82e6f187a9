pub mod Sizes
pub mod Rows
pub mod Tests
pub mod Changes
pub mod Replays
pub mod Verdicts
