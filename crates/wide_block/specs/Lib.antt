pub mod Sums
pub mod Block
pub mod Answer
pub mod Laws
