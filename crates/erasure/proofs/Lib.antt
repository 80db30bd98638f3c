-- If all bits of the word are sent, the first iteration settles them, and there is no earlier one; one round of the
-- reading has all coded bits.
pub mod Whole
-- If nothing is sent or known, a word with a single 1 shows nothing, so no bit is found; by induction over the
-- iterations none ever is.
pub mod Unsent
-- The code. A set has the states reached by steps without a known bit 1: the zeros of a minimum count, which the
-- theory of paths gives. A bit is not found exactly if a step by a 1 leads from the set in front of the bit into the
-- set from which steps lead on to the tail.
pub mod Hiding
-- Both passes over the sets determine which bits are found.
pub mod Passes
-- Found bits depend only on the known bits, so the marks in the code agree with the definition, iteration by iteration.
pub mod Agree
-- Sent bits, by counts.
pub mod Counts
