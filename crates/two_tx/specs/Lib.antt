pub mod Plan
pub mod Sent
pub mod Made
