mod Fields
pub mod Plain
pub mod PlainJson
