pub mod Conveys
pub mod Laws
