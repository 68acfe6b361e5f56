pub mod TableText
pub mod WellFormed
pub mod TableForm
pub mod Record
pub mod Arrays
