pub mod Chains
pub mod Cells
