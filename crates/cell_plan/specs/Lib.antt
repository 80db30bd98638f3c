pub mod Conditions
pub mod Words
pub mod Transport
pub mod Parts
pub mod Plan
pub mod Pair
pub mod Gains
pub mod Laws
