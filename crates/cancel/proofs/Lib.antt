-- Magnitudes of samples.
pub mod WaveSizes
-- The gain estimate.
pub mod Estimates
-- The best candidate and its residual.
pub mod Best
pub mod Found
-- Products in 32 bits.
pub mod Narrow
-- A clean recording.
pub mod InRecording
-- Existence and uniqueness of the answer.
pub mod Exists
pub mod Once
-- The code's choice.
pub mod Chosen
