pub mod Parts
pub mod Logs
pub mod Verdicts
