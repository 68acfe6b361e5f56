pub mod Putting
pub mod Classes
pub mod Extending
pub mod Covering
