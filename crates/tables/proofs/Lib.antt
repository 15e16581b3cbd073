pub mod Bools
pub mod Loops
pub mod Searches
pub mod Chains
pub mod Keeping
pub mod Only
pub mod Below
pub mod Firsts
