-- The reason that each entry has.
pub mod Reasons
-- A pair's soft values have the signs of its bits.
pub mod Values
-- The list contains each cell to which the recording is faithful.
pub mod HeldCells
