pub mod AllThree
pub mod KnownPermits
pub mod Meetings
pub mod Shares
