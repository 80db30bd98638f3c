pub mod Values
pub mod Cells
pub mod Hits
pub mod Evidence
pub mod All
pub mod Supported
pub mod Rounds
pub mod Offset
