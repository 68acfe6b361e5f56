pub mod Records
pub mod InRange
pub mod Rising
pub mod Bids
pub mod Accepted
pub mod Bidders
pub mod Refusals
pub mod Same
