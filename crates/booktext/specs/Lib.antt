pub mod BookText
pub mod WellFormed
pub mod BookForm
pub mod Record
pub mod Arrays
