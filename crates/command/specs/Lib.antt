pub mod Cmnd
pub mod Cdb
pub mod Tests
pub mod Command
pub mod Turn
