pub mod Floats
pub mod RoundsFloats
pub mod OffsetFloats
pub mod OneText
mod ItemTexts
mod SupportedCells
