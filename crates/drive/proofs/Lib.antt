pub mod Ways
pub mod Turns
pub mod Made
pub mod Keeping
pub mod Others
