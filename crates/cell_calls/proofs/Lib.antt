pub mod CallsTell
pub mod CallersStay
pub mod OwnCells
pub mod PlacesPassed
pub mod WalksTell
pub mod KeepingTells
pub mod WaitsOfSelects
pub mod SelectsBegun
