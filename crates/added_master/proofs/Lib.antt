mod Words
mod Adding
mod Decoded
mod Choices
mod Patterns
