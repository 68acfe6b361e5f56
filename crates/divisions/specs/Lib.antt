pub mod Division
pub mod Listing
pub mod Award
pub mod IsAward
pub mod NoDearer
pub mod Stored
pub mod Before
