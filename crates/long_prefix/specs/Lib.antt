pub mod Sent
pub mod Made
pub mod Entries
pub mod Clean
