pub mod Receivers
pub mod Evidence
pub mod Blocks
pub mod Shown
pub mod Clear
