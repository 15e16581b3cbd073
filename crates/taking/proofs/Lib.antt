pub mod Ways
pub mod Steps
pub mod Bursts
pub mod Turns
pub mod Keeping
pub mod Others
pub mod Silent
