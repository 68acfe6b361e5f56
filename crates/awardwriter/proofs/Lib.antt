pub mod Past
pub mod Layouts
