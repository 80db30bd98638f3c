pub mod Fronts
pub mod Rest
pub mod Parts
pub mod Judged
pub mod Progress
pub mod Certified
