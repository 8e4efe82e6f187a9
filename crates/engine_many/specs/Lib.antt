pub mod Parts
pub mod Meetings
pub mod Endings
pub mod WordRuns
