pub mod Written
pub mod Sign
pub mod Puts
