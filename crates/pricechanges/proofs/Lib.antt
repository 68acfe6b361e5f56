pub mod Prices
pub mod Divisions
pub mod Discount
pub mod Raise
pub mod Strike
