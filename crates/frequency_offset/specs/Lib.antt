pub mod Turned
pub mod Order
pub mod Fine
pub mod Fractions
pub mod Candidates
pub mod Estimation
pub mod Laws
pub mod Steps
