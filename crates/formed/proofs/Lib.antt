pub mod Sizes
pub mod Parts
pub mod Keeping
pub mod Advance
pub mod Taking
pub mod Keys
pub mod Places
pub mod Clauses
