mod AtTheStart
pub mod OnTheSeats
pub mod OnTheWords
pub mod StepsOfSeats
pub mod TagsAndPrefixes
pub mod TagsHeld
pub mod TagsNotGiven
