pub mod Waveform
pub mod WaveformLaws
