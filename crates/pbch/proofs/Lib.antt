pub mod Words
pub mod FrameSums
mod Rows
