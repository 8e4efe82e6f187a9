pub mod Desks
pub mod HubFloors
pub mod Registrations
pub mod Takings
pub mod Walks
