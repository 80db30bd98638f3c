-- Payloads have 5 to 29 bits, and each candidate has enough soft values for a word.
pub mod Sizes
-- The word whose signs the values have is decoded, so its search finds its grant.
pub mod Words
-- The grants before and after the sent one.
pub mod Grants
-- The block is decoded.
pub mod Blocks
-- The frame's first offer that has fields has the sent ones.
pub mod Spoken
-- So has the first frame that has fields, and the entry of the list.
pub mod Listed
