pub mod Bytes
pub mod Scanned
pub mod Three
mod Words
mod Calls
pub mod Collecting
