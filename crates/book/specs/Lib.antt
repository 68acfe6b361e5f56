pub mod Entries
pub mod Rules
pub mod Accepted
