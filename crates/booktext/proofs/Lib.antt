pub mod BookForm
pub mod Records
pub mod Accepted
pub mod Lengths
