pub mod TableForm
pub mod Records
pub mod Accepted
