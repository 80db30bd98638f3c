pub mod Complex
pub mod Gain
pub mod Rounding
pub mod Sums
