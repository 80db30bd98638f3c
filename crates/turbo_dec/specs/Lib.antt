pub mod Decoder
pub mod Block
pub mod Laws
pub mod Costs
