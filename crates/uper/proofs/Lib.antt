pub mod Texts
pub mod Reading
pub mod Steps
pub mod Putting
pub mod Fronts
pub mod Laws
pub mod FirstText
