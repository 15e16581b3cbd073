pub mod Seats
pub mod Views
pub mod Decisions
pub mod Others
pub mod Standing
pub mod Keeping
