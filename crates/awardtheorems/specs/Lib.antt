pub mod OfBook
pub mod Awarded
pub mod Before
