-- The samples of a numbered recording.
pub mod Samples
-- Each symbol of a clean recording is received as it was sent.
pub mod SentSignals
-- A slot's soft values have the signs of the bits that it carries.
pub mod Decoded
-- A slot's soft values are within their bounds.
pub mod Pairs
-- Conclusion: the list of a clean recording contains its cell.
pub mod HeldLong
-- A number has one recording.
pub mod Numbered
-- With the extended cyclic prefix a cell sends only the plan's fields.
pub mod SentPlan
-- The samples that the receiver reads.
pub mod Deciding
