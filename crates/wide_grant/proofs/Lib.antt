pub mod Units
pub mod Any
pub mod Values
pub mod Matrix
