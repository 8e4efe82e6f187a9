pub mod Asked
pub mod Answering
pub mod Completing
pub mod WrittenMeans
