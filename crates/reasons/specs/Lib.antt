pub mod Strongest
pub mod Attempt
pub mod Reason
pub mod Laws
