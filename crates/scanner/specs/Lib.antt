pub mod Scans
pub mod Items
