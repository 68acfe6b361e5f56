pub mod Least
pub mod Taken
pub mod Segments
pub mod Lowered
pub mod Bidder
pub mod Verdict
pub mod Leaves
