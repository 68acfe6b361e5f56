pub mod Sums
pub mod Filling
