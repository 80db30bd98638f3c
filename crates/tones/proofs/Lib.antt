pub mod Entries
pub mod Laws
pub mod Folds
pub mod Sizes
pub mod Rows
