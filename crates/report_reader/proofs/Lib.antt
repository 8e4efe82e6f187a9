mod Numbers
mod Cuts
mod Waits
mod LineLoops
