pub mod Table
pub mod Streams
pub mod Encoder
pub mod Machine
pub mod Reading
pub mod Walk
pub mod Laws
