pub mod Values
pub mod Master
pub mod Laws
