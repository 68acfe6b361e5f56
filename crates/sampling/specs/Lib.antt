pub mod Entries
pub mod Sampling
pub mod Rules
pub mod Bands
