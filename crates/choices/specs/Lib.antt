pub mod Choice
pub mod Chosen
pub mod Leaf
pub mod Search
pub mod Listed
