pub mod Drive
pub mod Entry
pub mod Turn
pub mod Others
