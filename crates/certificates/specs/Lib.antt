pub mod Stream
pub mod Reading
pub mod Certifying
pub mod Words
