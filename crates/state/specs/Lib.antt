pub mod Changes
pub mod Kinds
pub mod Standing
pub mod Tables
