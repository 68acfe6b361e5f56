pub mod Page
pub mod ReadBack
pub mod Fits
pub mod ThePage
