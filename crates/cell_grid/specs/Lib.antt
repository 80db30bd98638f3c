pub mod Ports
pub mod Points
pub mod Block
pub mod Control
pub mod Shared
pub mod Grid
pub mod Load
pub mod Rows
