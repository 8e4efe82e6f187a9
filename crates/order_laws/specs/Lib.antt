pub mod StaleAnswers
pub mod WrongResults
pub mod BrokenScopes
pub mod LateReceives
