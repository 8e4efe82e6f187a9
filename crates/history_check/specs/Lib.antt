pub mod Histories
pub mod Overs
pub mod Verdicts
pub mod Steps
