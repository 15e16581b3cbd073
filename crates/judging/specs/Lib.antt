pub mod Text
pub mod Judgement
