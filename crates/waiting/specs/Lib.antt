pub mod Closes
pub mod Jobs
pub mod Once
pub mod Sinks
pub mod Stands
pub mod Stops
pub mod Streams
pub mod Waits
