pub mod Pictures
pub mod Elements
pub mod WellFormed
pub mod Diagrams
pub mod Order
pub mod Shown
pub mod Traces
pub mod Json
