pub mod Once
pub mod Exists
pub mod GrantRead
