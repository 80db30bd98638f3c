pub mod Words
pub mod Recording
pub mod Reading
pub mod Steps
pub mod Writing
