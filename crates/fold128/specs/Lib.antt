pub mod Tables
pub mod Symbol
pub mod Spectrum
pub mod Folding
pub mod Laws
