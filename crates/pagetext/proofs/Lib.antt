pub mod Columns
pub mod Lines
pub mod Page
pub mod Numbers
pub mod Amounts
pub mod ReadBack
