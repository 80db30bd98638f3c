pub mod Received
pub mod Entries
