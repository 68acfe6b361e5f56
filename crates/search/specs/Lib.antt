pub mod ChosenFrom
pub mod Searchable
