pub mod Covers
pub mod Cuts
pub mod Cases
