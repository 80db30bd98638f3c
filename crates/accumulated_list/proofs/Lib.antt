pub mod SumsInRows
pub mod Gathered
pub mod Found
pub mod EchoTest
pub mod Ordered
pub mod Agree
pub mod Apart
