pub mod Spacing
pub mod Values
