pub mod Words
pub mod Blocks
pub mod Exists
pub mod Once
pub mod SizeRows
