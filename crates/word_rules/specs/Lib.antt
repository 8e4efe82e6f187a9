pub mod Cells
pub mod Codes
pub mod Deeds
pub mod Orders
pub mod Rows
pub mod Words
