pub mod Grammar
pub mod Texts
pub mod Cursor
pub mod Reading
pub mod Sheet
