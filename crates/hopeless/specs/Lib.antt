pub mod Hopeless
