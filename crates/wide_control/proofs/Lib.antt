pub mod Lengths
pub mod Found
pub mod Once
pub mod Exists
