pub mod Passing
pub mod Refusals
