pub mod LeastWord
pub mod Laws
pub mod Clean
pub mod Machine
pub mod Costs
pub mod Passes
pub mod Keys
