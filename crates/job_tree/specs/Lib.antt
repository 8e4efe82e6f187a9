pub mod Rooms
pub mod Callers
pub mod Notes
pub mod Passes
pub mod Failures
pub mod Endings
