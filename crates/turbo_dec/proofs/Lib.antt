pub mod Small
pub mod Scores
pub mod Greatest
pub mod Rows
pub mod Back
pub mod Iterating
pub mod Known
