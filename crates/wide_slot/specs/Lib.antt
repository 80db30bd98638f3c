pub mod Lines
pub mod Slot
pub mod Values
