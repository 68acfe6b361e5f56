pub mod Steps
pub mod Left
pub mod Answers
pub mod Divided
