pub mod TooDear
pub mod Asked
