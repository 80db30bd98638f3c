pub mod Matrix
pub mod Items
