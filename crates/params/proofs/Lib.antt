pub mod Exactly
pub mod Names
pub mod Services
