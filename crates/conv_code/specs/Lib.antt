pub mod Code
pub mod Reading
pub mod Cost
pub mod Laws
pub mod Steps
