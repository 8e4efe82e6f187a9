mod CallsAdd
mod KnownAfterCalls
pub mod KnownAtFirst
pub mod LooksBeforeCalls
mod ReadyWaits
mod SettingsKept
pub mod TagsGivenOut
mod UsesKept
