pub mod FromText
pub mod OfBidder
