pub mod Forms
pub mod Lists
pub mod Tables
pub mod Valid
pub mod Refusals
pub mod Values
pub mod Ranges
