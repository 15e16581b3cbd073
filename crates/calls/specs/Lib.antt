pub mod View
pub mod Turn
pub mod Others
