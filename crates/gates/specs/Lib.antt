pub mod Answers
pub mod Gates
pub mod Laws
pub mod Once
pub mod Passes
pub mod Seen
pub mod Words
