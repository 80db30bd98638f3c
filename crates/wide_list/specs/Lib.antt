pub mod First
pub mod Frames
pub mod Together
pub mod System
pub mod List
pub mod Bits
pub mod Laws
