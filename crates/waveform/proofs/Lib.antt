-- The sum received from several ports: its terms, and its magnitude by Cauchy's inequality.
pub mod Sums
-- The demodulated waveform: 2^35 times the received amplitudes, up to the leakage of each port.
pub mod Spectra
-- The bound: an amplitude near a waveform is demodulated with a small deviation.
pub mod SeenWaves
-- Errors relative to the waveform, and relative to the rounded samples.
pub mod Rounded
-- The synchronisation signals stand out and give the identity.
pub mod NearSignals
-- The resource elements of decoded slots are observed as received from all ports.
pub mod NearSlots
-- A receiver of any scheme hears each cell near whose waveform the recording is.
pub mod NearCells
-- A recording that is faithful to a cell is near its waveform.
pub mod FaithfulNear
