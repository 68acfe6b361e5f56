pub mod Sound
pub mod Records
