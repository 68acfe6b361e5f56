pub mod Prices
pub mod Rows
