pub mod PrimaryValues
pub mod SecondaryValues
pub mod Distinct
pub mod ShiftRows
pub mod Grids
