pub mod Boundary
pub mod Settled
