pub mod Books
pub mod Rests
