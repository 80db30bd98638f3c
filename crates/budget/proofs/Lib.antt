-- The table W: the product of two entries is nearly the entry at their summed indices (a finite check).
pub mod Products
-- The first cause of a deviation: the tables' leakage from every fourth subcarrier.
pub mod Leakage
-- All causes and their sum: the leakage, the transmitted samples' rounding, the received samples' errors, and
-- demodulated rounding.
pub mod Causes
-- Values in parts: their laws, and errors by component.
pub mod Parts
-- The bound: a demodulated value is near 64 times the gain times the amplitude.
pub mod Seen
-- The samples of the three primary signals, as a table, and their sums: power, overlaps with shifted copies, and edges
-- (finite checks).
pub mod PeakSums
-- Two overlapping windows of samples, by Cauchy's inequality.
pub mod Windows
-- A shifted window has a lower metric, and so the primary signal is a hit.
pub mod Peaks
-- A product of two demodulated numbers, with their deviations.
pub mod Deviations
-- Channel estimates: a multiple of a gain up to a deviation, at every subcarrier as at the pilots.
pub mod Near
-- A demodulated amplitude of known magnitude: its square, and the channel estimate from it.
pub mod Pilots
-- The sign and magnitude of a soft value, from its component and the pilot energy.
pub mod Signs
-- The soft values for a resource element that is demodulated through a channel; one gain is a case.
pub mod Through
-- The demodulation of a symbol that is received over several paths.
pub mod SeenOver
-- The distance of the paths' channel from the first path's gain, and from the line through 24 of its values.
pub mod BendsOver
-- Through a channel that leaves room, each term of the transmitted pair's score is above 0, so its score is the only
-- maximum.
pub mod Scores
-- The signals over several paths: demodulated through their channel, with the later paths as errors of the primary
-- signal.
pub mod SignalPaths
