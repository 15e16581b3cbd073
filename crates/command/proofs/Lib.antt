pub mod Ways
pub mod Turns
pub mod Flags
pub mod Moves
pub mod Silent
pub mod Opens
pub mod Keeping
pub mod Logins
