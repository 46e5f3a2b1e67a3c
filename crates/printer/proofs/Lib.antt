pub mod Outputs
pub mod Overwrites
