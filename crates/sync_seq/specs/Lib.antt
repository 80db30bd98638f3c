pub mod Primary
pub mod Secondary
pub mod Middle
pub mod Laws
