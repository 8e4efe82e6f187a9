pub mod Examples
pub mod Passes
pub mod CellsLeft
pub mod Rings
