pub mod Windows
pub mod Registers
pub mod Pieces
pub mod Bits
