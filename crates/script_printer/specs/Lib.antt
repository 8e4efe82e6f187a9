pub mod Printing
pub mod GeneratedText
