pub mod TheAward
pub mod Outcome
pub mod ByTable
pub mod Shown
