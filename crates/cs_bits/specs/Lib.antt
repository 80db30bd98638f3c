pub mod Numbers
pub mod Polynomial
pub mod Checks
pub mod Signs
pub mod Register
