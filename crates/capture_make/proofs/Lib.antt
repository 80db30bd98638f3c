pub mod Information
pub mod Plans
pub mod Words
pub mod Adding
pub mod Samples
mod Roots
