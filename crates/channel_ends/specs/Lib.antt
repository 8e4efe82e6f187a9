pub mod Hidden
pub mod Ends
pub mod Marks
pub mod Handles
pub mod Numbers
