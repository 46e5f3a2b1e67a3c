pub mod Parts
pub mod Acting
pub mod Tallies
