pub mod May
pub mod After
pub mod TreeCalls
pub mod Walks
