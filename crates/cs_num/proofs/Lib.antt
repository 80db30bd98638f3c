pub mod Signed
pub mod Complex
pub mod Gains
pub mod Rounding
pub mod Sums
pub mod Tested
pub mod SoFar
pub mod Samples
