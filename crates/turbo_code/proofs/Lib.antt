pub mod TableFacts
pub mod OneRow
pub mod Permutes
pub mod Cells
pub mod Turned
pub mod Encoding
pub mod CodedBits
pub mod Linear
pub mod Registers
pub mod Edges
pub mod Orders
pub mod Round
mod Walking
pub mod Sums
pub mod Inside
pub mod Whole
pub mod Known
pub mod Magnitudes
