pub mod Loops
pub mod Groups
pub mod Inside
pub mod Carried
pub mod Unused
