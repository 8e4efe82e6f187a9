pub mod Families
pub mod HubPasses
pub mod ParcelPasses
pub mod RingPasses
