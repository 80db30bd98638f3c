pub mod Numbers
pub mod Signs
pub mod Division
pub mod Checks
pub mod Vectors
