pub mod Halved
pub mod Wide
pub mod Steps
