pub mod RoundTrips
pub mod Timings
pub mod Same
pub mod Carriers
