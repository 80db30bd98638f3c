pub mod Entries
pub mod Received
