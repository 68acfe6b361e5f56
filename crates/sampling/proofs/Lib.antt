pub mod Scan
pub mod Bands
