pub mod Sent
pub mod Starts
pub mod Sending
pub mod Clean
pub mod Emission
pub mod Mixing
pub mod Emitting
pub mod Laws
