pub mod Correlation
pub mod Tests
pub mod Hits
pub mod Laws
pub mod Metrics
pub mod Strongest
pub mod Products
pub mod Steps
