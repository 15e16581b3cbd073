pub mod Passes
pub mod Spared
