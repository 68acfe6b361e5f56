pub mod Kind
pub mod Answers
pub mod Told
pub mod Outcome
pub mod Parsed
