pub mod Clauses
pub mod Selects
pub mod Parts
