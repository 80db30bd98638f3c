pub mod Certificate
pub mod Stored
pub mod Steps
pub mod Forward
pub mod Form
