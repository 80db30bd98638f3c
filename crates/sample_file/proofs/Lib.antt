pub mod Samples
pub mod Agree
pub mod Progress
pub mod Waiting
pub mod Chunks
pub mod Keeping
