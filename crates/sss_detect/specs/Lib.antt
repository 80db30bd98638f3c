pub mod Scores
pub mod Identity
pub mod Second
pub mod Place
pub mod Laws
pub mod Steps
