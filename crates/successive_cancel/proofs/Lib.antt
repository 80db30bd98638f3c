-- Cancellation of one cell.
pub mod Taking
-- Rounds in succession.
pub mod Following
-- The first entry that can be cancelled.
pub mod Front
-- A clean recording.
pub mod CleanCells
-- A recording's rounds are unique.
pub mod Once
-- Rounds in plain words.
pub mod Plain
