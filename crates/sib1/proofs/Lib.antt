pub mod Whole
pub mod Messages
pub mod Exists
pub mod Written
pub mod Blocks
pub mod Once
pub mod Valid
pub mod Texts
