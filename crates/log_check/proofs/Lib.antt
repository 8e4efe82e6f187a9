mod Cuts
mod Named
mod Written
mod EqualNotes
mod Judging
