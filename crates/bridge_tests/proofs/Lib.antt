pub mod ClosesSeen
pub mod TagsEnded
pub mod ThreeKept
