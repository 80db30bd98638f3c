pub mod Bounds
pub mod References
pub mod Lengths
pub mod Amplitudes
pub mod Magnitudes
