pub mod Register
pub mod Sequence
pub mod Gold
