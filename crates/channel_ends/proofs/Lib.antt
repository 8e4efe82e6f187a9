mod AsBox
mod EndsGo
mod Handles
mod Masks
