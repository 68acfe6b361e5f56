pub mod Verdict
pub mod Number
pub mod Checks
