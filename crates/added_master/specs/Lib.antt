pub mod Sums
pub mod Master
pub mod Choice
pub mod Laws
