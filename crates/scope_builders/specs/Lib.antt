pub mod Dones
pub mod Calls
pub mod Parts
