pub mod Format
pub mod Offer
pub mod Values
pub mod Control
pub mod Laws
