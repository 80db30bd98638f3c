pub mod Folded
pub mod Lengths
