pub mod Told
pub mod Struck
pub mod Laws
pub mod NotTold
pub mod Counterexamples
