pub mod FoundRows
pub mod GivenSizes
pub mod Once
pub mod Entries
pub mod Carried
