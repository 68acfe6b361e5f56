pub mod Discount
pub mod Named
pub mod Asked
