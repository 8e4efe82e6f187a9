pub mod Callers
pub mod CellsDrawn
pub mod Known
pub mod LatestChannels
pub mod SelectChannels
