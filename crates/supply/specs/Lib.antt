pub mod Supply
pub mod Curve
pub mod Sound
pub mod Places
pub mod Allocation
pub mod Meets
pub mod Asked
