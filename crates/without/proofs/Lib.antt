pub mod Less
pub mod Searchable
pub mod Found
pub mod Same
