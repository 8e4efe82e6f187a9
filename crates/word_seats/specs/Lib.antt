pub mod HubFates
pub mod Names
pub mod Seats
