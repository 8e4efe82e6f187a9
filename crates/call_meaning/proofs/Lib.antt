pub mod OrderCounts
pub mod PointsOfMoments
pub mod Along
pub mod Tellings
pub mod Prefixes
pub mod ChannelsHeard
pub mod HeardCalls
pub mod JobTellings
