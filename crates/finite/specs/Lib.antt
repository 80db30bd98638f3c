pub mod Bits
pub mod Sizes
pub mod Sums
pub mod Tests
pub mod Lists
pub mod Tables
