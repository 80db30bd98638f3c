pub mod Tones
pub mod Seen
pub mod Folding
pub mod Laws
