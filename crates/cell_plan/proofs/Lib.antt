pub mod BlockRows
pub mod WholeBlocks
pub mod Sendable
pub mod NewCells
pub mod SystemWords
pub mod Powers
