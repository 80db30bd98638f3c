pub mod Votes
pub mod Signs
pub mod Detection
pub mod Patterns
pub mod Laws
pub mod Steps
