pub mod Charge
pub mod Records
