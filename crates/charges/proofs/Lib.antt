pub mod Sizes
pub mod Cut
pub mod Bound
