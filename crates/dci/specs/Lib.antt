pub mod Fields
pub mod Assignment
pub mod Sizes
pub mod Format1A
