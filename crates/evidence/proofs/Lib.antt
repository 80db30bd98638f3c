pub mod Fractions
pub mod SecondDifferences
mod PortByPort
pub mod Least
pub mod Numbers
pub mod Only
pub mod SetBlocks
mod Early
pub mod Each
-- An entry's PSS detection for a cell to which the recording is faithful is at a primary signal's position.
mod PeakOfEntry
-- The entry's slot has its pilots received with the gain.
mod SeenPilots
-- These pilots are close to one multiple of the gain.
mod PilotDifferences
-- Conclusion, with the entry's fields in the list.
mod ClearEntries
