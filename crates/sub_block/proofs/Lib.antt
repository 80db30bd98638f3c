pub mod Cells
pub mod Search
pub mod Sums
pub mod Rounds
pub mod Counted
pub mod Once
