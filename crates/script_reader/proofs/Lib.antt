mod Cuts
mod Numbers
mod NameTexts
mod KindWords
mod Starts
mod Loads
mod Lengths
mod Kept
mod LineLoops
pub mod Sized
mod Launchings
mod Stacks
mod Tables
mod Finished
mod WholeTexts
pub mod Answered
