pub mod Recipe
pub mod Errors
pub mod Made
