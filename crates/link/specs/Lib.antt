pub mod Link
pub mod Record
pub mod Login
pub mod Turn
pub mod Rejections
pub mod Page
