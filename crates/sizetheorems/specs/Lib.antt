pub mod TheSizes
