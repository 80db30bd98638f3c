pub mod Plans
pub mod Samples
