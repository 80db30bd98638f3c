pub mod Pieces
pub mod AnswerLines
pub mod OneText
mod RuledTexts
