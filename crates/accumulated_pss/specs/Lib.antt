pub mod Sums
pub mod Tests
pub mod Maxima
pub mod Laws
pub mod Steps
