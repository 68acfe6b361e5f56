pub mod Firsts
pub mod Refusals
pub mod Numbers
