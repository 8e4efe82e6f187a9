pub mod Handings
pub mod Leaves
pub mod Selects
pub mod Sinks
pub mod Streams
pub mod Waits
