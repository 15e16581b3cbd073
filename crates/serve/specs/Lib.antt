pub mod Made
pub mod Next
pub mod Turn
pub mod Refusals
pub mod Whole
