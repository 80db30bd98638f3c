pub mod Paths
pub mod Least
pub mod Words
pub mod AllWords
pub mod Rows
