pub mod Cell
pub mod Place
