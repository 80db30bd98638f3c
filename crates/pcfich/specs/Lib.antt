pub mod Values
pub mod Indicator
