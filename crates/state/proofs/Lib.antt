pub mod Shape
pub mod Places
