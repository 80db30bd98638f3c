pub mod Layout
pub mod Message
pub mod Text
