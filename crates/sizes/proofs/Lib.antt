pub mod Multiplied
pub mod Answers
