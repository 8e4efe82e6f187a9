pub mod AfterSends
pub mod AfterLaunches
pub mod CollectedElements
pub mod AttachedChild
pub mod FirstElements
pub mod FreshPasses
pub mod Prefixes
pub mod TagsEnded
