pub mod Choices
pub mod Seconds
pub mod Small
pub mod Scoring
pub mod Agree
