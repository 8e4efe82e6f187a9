pub mod Parts
pub mod Fitting
pub mod Waiting
pub mod Answers
pub mod Naming
