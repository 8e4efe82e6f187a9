pub mod Given
pub mod SameForests
pub mod SeatsTell
pub mod SeatsHear
pub mod NewSeats
pub mod OneFate
