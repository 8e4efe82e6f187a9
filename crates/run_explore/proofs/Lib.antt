mod Limits
mod Meaning
