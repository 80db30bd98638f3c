pub mod Entries
pub mod Samples
pub mod Laws
pub mod Tones
pub mod Folds
pub mod FoldSizes
pub mod EntrySizes
