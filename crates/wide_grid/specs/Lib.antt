pub mod Group
pub mod Control
pub mod Candidate
pub mod Pdsch
