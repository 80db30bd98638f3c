pub mod Sent
pub mod Spoken
pub mod Listed
pub mod Laws
