pub mod Chains
pub mod Moves
pub mod Meant
