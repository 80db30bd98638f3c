pub mod Agree
pub mod Closest
pub mod OneReason
pub mod InList
pub mod Steps
