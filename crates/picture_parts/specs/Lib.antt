pub mod LineWords
pub mod Places
pub mod Names
pub mod Markup
pub mod Members
