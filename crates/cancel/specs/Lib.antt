pub mod Gain
pub mod Residue
pub mod Steps
pub mod Laws
