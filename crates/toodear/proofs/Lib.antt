pub mod Sold
pub mod Places
pub mod Rises
pub mod Awards
pub mod Halved
pub mod Answers
