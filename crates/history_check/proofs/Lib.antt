pub mod DeclaredKinds
pub mod JobSteps
pub mod NoteTests
pub mod Walks
pub mod OverBits
