pub mod Power
pub mod Qpsk
pub mod Reference
pub mod Ports
