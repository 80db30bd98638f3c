pub mod Counts
pub mod Streams
pub mod Outside
pub mod States
