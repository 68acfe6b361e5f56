mod Texts
pub mod Reading
pub mod Back
pub mod Tables
