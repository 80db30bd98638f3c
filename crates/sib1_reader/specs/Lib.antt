pub mod Subframe
pub mod Control
pub mod Block
pub mod Attempt
pub mod Laws
