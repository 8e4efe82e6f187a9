pub mod Words
pub mod Names
pub mod Items
pub mod JobItems
pub mod Lines
pub mod Numbers
pub mod Inputs
pub mod Readings
