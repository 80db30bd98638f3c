pub mod Estimate
pub mod Soft
pub mod Kept
pub mod Places
pub mod Front
pub mod Lines
pub mod Pairs
pub mod Layout
