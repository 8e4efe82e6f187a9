mod Meaning
mod Ranges
