pub mod Counts
pub mod GoingOn
pub mod Owners
