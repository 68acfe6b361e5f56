pub mod Answers
pub mod Books
pub mod Laws
pub mod Without
pub mod Worked
pub mod Counterexamples
