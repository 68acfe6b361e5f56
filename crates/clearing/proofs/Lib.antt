pub mod Made
pub mod Answers
