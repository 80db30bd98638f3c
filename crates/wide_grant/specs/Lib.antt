pub mod Runs
pub mod Distributed
pub mod Sizes
pub mod Grants
pub mod Laws
