pub mod Words
pub mod Services
