pub mod ScansLine
