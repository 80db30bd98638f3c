pub mod Zipped
mod Hex
mod NoFloat
pub mod Order
mod Ascending
