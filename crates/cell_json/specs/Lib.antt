pub mod Kinds
pub mod Information
pub mod Description
pub mod Parts
pub mod Reading
pub mod Words
