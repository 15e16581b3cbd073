pub mod Formed
pub mod Keys
