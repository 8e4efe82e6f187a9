pub mod ElementsHeld
pub mod RunsAtRest
