pub mod Changed
pub mod Discount
pub mod Raise
